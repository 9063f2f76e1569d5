-- What is told of one item more.
use Rattle.std.proofs.Common.{◌≡◌, ◌<◌, ◌+◌, ◌++◌, ℕ, List, ◌∷◌, Option, Some, None, length, get_or, drop, option_to_list, refl, sym, ap, ◌∙◌, append_assoc}
use Rattle.std.specs.List.{cons_option}
use Rattle.std.proofs.lemmas.List.{drop_more}
use Rattle.driver_table.specs.Items.{Said}
use Rattle.driver_fields.specs.Own.{warning, warnings}

in_front : (line : Option (List ℕ)) (lines : List (List ℕ)) → option_to_list line ++ lines ≡ cons_option line lines
in_front None lines = refl
in_front (Some line) lines = refl

pub one_more : (items : List Said) (i : ℕ) (said : Said) (lines new : List (List ℕ)) (line : Option (List ℕ)) (all : List (List ℕ))
    → i < length items → said ≡ get_or items i said → line ≡ warning said → new ≡ lines ++ option_to_list line
    → lines ++ warnings (drop i items) ≡ all → new ++ warnings (drop (i + 1) items) ≡ all
one_more items i said lines new line all below is told put so_far =
    let rest = warnings (drop (i + 1) items) in
    let one : drop i items ≡ said ∷ drop (i + 1) items = drop_more items i said below ∙ ap (λ (s : Said). s ∷ drop (i + 1) items) (sym is) in
    let here : warnings (drop i items) ≡ cons_option line rest =
    ap (λ (left : List Said). warnings left) one ∙ ap (λ (o : Option (List ℕ)). cons_option o rest) (sym told) in
    ap (λ (ls : List (List ℕ)). ls ++ rest) put ∙ append_assoc lines (option_to_list line) rest
    ∙ ap (λ (more : List (List ℕ)). lines ++ more) (in_front line rest ∙ sym here) ∙ so_far
