-- Words that are dropped may be left out.
use Rattle.std.proofs.Common.{◌≡◌, ℕ, List, [], ◌∷◌, ◌++◌, Option, Some, None, Result, Ok, Err, IsOk, refl, sym, ap, ◌∙◌, append_assoc}
use Rattle.driver_table.specs.declared.cut.Begun.{Begun}
use Rattle.driver_table.specs.declared.cut.Begun.TheVariants.{Whole, Waits}
use Rattle.driver_table.specs.Items.{Said}
use Rattle.driver_table.specs.Cut.{behind, with_item, step, go_on, cut_from, cut_of}
use Rattle.driver_words.specs.Translated.{then_answer, answered}
use Rattle.driver_words.specs.FrontLaws.{DroppedAreLeftOut}

abbrev Cutting : Type 0
Cutting = Result (List Said) (List ℕ)

behind_none : (r : Cutting) → behind [] r ≡ r
behind_none (Ok items) = refl
behind_none (Err refusal) = refl

behind_both : (a b : List Said) (r : Cutting) → behind a (behind b r) ≡ behind (a ++ b) r
behind_both a b (Ok items) = ap (λ (all : List Said). let r : Cutting = Ok all in r) (sym (append_assoc a b items))
behind_both a b (Err refusal) = refl

ok_is : {A E : Type 0} {a b : A} → (let r : Result A E = Ok a in r ≡ Ok b) → a ≡ b
ok_is e = cc

by_rest : (front words : List (List ℕ)) (items : List Said) → ((some : List Said) → cut_from None front ≡ Ok some → cut_from None (front ++ words) ≡ behind some (cut_from None words))
    → (said : Said) (r : Cutting) → cut_from None front ≡ r → behind (with_item said) r ≡ Ok items → behind (with_item said) (cut_from None (front ++ words)) ≡ behind items (cut_from None words)
by_rest front words items rest said (Err refusal) is e = absurd cc
by_rest front words items rest said (Ok more) is e =
    ap (λ (r : Cutting). behind (with_item said) r) (rest more is) ∙ behind_both (with_item said) more (cut_from None words)
    ∙ ap (λ (i : List Said). behind i (cut_from None words)) (ok_is e)

by_step : (word : List ℕ) (front words : List (List ℕ)) (items : List Said)
    → ((waits : Option Said) (some : List Said) → cut_from waits front ≡ Ok some → cut_from waits (front ++ words) ≡ behind some (cut_from None words))
    → (begun : Option Begun) → go_on word begun (λ w. cut_from w front) ≡ Ok items → go_on word begun (λ w. cut_from w (front ++ words)) ≡ behind items (cut_from None words)
by_step word front words items rest None e = absurd cc
by_step word front words items rest (Some (Whole said)) e = by_rest front words items (rest None) said (cut_from None front) refl e
by_step word front words items rest (Some (Waits said)) e = rest (Some said) items e

-- words behind those that are cut whole are cut alone
cut_behind : (waits : Option Said) (front words : List (List ℕ)) (items : List Said) → cut_from waits front ≡ Ok items → cut_from waits (front ++ words) ≡ behind items (cut_from None words)
cut_behind None [] words items e = sym (behind_none (cut_from None words)) ∙ ap (λ (i : List Said). behind i (cut_from None words)) (ok_is e)
cut_behind (Some said) [] words items e = absurd cc
cut_behind waits (word ∷ front) words items e = by_step word front words items (λ w i h. cut_behind w front words i h) (step waits word) e

whole_front : (front dropped words : List (List ℕ)) (r : Cutting) → cut_of front ≡ r → IsOk r → cut_of dropped ≡ Ok [] → cut_of (front ++ dropped ++ words) ≡ cut_of (front ++ words)
whole_front front dropped words (Err refusal) is ok none = absurd cc
whole_front front dropped words (Ok items) is ok none =
    let rest : cut_from None (dropped ++ words) ≡ cut_from None words = cut_behind None dropped words [] none ∙ behind_none (cut_from None words) in
    ap cut_of (append_assoc front dropped words) ∙ cut_behind None front (dropped ++ words) items is ∙ ap (λ (r : Cutting). behind items r) rest ∙ sym (cut_behind None front words items is)

pub left_out : DroppedAreLeftOut
left_out held front dropped words ok none = ap (λ (c : Cutting). then_answer c (answered held)) (whole_front front dropped words (cut_of front) refl ok none)
