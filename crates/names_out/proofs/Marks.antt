-- Names of stubs.
use Rattle.std.proofs.Common.{◌≡◌, ℕ, zero, suc, ◌+◌, ◌==◌, ◌<◌, ◌≤◌, Bool, true, false, List, [], ◌∷◌, length, drop, get_or, refl, sym, ap, ◌∙◌}
use Rattle.std.specs.Prelude.{if◌then◌else◌}
use Rattle.std.proofs.lemmas.Bool.{ne_eqb}
use Rattle.std.proofs.lemmas.List.{at_drop_more, at_drop_all}
use Rattle.function_names.specs.Labels.{behind_marks}

one_more : (n : ℕ) (name : List ℕ) → behind_marks n (behind_marks 1 name) ≡ behind_marks (suc n) name
one_more zero [] = refl
one_more (suc n) [] = refl
one_more n (b ∷ bs) = by_test (b == 0xFF) (one_more n bs)
  where
    by_test : (r : Bool) → behind_marks n (behind_marks 1 bs) ≡ behind_marks (suc n) bs
        → behind_marks n (if r then bs else behind_marks 1 bs) ≡ (if r then behind_marks n bs else behind_marks (suc n) bs)
    by_test true again = refl
    by_test false again = again

-- what stands behind three marks
pub three_marks : (name : List ℕ) → behind_marks 1 (behind_marks 1 (behind_marks 1 name)) ≡ behind_marks 3 name
three_marks name = one_more 1 (behind_marks 1 name) ∙ one_more 2 name

module _ (name : List ℕ) (at d : ℕ) (lt : at < length name) (so_far : behind_marks 1 (drop at name) ≡ behind_marks 1 name) where
  step : (r : Bool) → (get_or name at d == 0xFF) ≡ r → (if r then drop (at + 1) name else behind_marks 1 (drop (at + 1) name)) ≡ behind_marks 1 name
  step r is =
      ap (λ b. if b then drop (at + 1) name else behind_marks 1 (drop (at + 1) name)) (sym is)
      ∙ (sym (at_drop_more (behind_marks 1) name at d lt) ∙ so_far)

  pub marked : get_or name at d ≡ 0xFF → drop (at + 1) name ≡ behind_marks 1 name
  marked is = step true (ap (λ n. n == 0xFF) is)

  pub unmarked : (get_or name at d ≡ 0xFF → ⊥) → behind_marks 1 (drop (at + 1) name) ≡ behind_marks 1 name
  unmarked isnt = step false (ne_eqb (get_or name at d) 0xFF isnt)

pub none_marked : (name : List ℕ) (at : ℕ) → length name ≤ at → behind_marks 1 (drop at name) ≡ behind_marks 1 name → [] ≡ behind_marks 1 name
none_marked name at le so_far = sym (at_drop_all (behind_marks 1) name at le) ∙ so_far
