-- Whether some item of a list passes.
use Rattle.std.proofs.Common.{◌≡◌, Bool, true, false, ◌||◌, List, [], ◌∷◌, filter_map, Option, Some, None, refl, ap, ◌∙◌}
use Rattle.std.specs.List.{list_any, cons_option}

abbrev pub option_any : {A : Type 0} → (A → Bool) → Option A → Bool
option_any test None = false
option_any test (Some x) = test x

pub any_chosen : {A B : Type 0} (test : B → Bool) (h : A → Option B) (xs : List A) → list_any test (filter_map h xs) ≡ list_any (λ x. option_any test (h x)) xs
any_chosen test h [] = refl
any_chosen {A} {B} test h (x ∷ xs) = by (h x) (any_chosen test h xs)
  where
    by : (o : Option B) → list_any test (filter_map h xs) ≡ list_any (λ x. option_any test (h x)) xs → list_any test (cons_option o (filter_map h xs)) ≡ (option_any test o || list_any (λ x. option_any test (h x)) xs)
    by None e = e
    by (Some b) e = ap (λ r. test b || r) e
