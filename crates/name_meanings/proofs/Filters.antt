-- Filters, and the first value of a list.
use Rattle.std.proofs.Common.{◌≡◌, Bool, true, false, ◌&&◌, List, [], ◌∷◌, ◌++◌, refl, Option, Some, None}
use Rattle.std.specs.Prelude.{filter, if◌then◌else◌}
use Rattle.name_entries.specs.wl_base.Choice.{first_some}
use Rattle.name_meanings.specs.Columns.{or_else}

both_tests : {X : Type 0} (x : X) (a b : Bool) (p : X → Bool) (inner outer : List X) → p x ≡ b → filter p inner ≡ outer
    → filter p (if a then x ∷ inner else inner) ≡ (if a && b then x ∷ outer else outer)
both_tests x true b p inner outer is same = rw (is, same) refl
both_tests x false b p inner outer is same = same

-- two filters, one behind the other
pub filter_both : {X : Type 0} (p q : X → Bool) (xs : List X) → filter p (filter q xs) ≡ filter (λ x. q x && p x) xs
filter_both p q [] = refl
filter_both p q (x ∷ xs) = both_tests x (q x) (p x) p (filter q xs) (filter (λ y. q y && p y) xs) refl (filter_both p q xs)

pub filter_same : {X : Type 0} (p q : X → Bool) (same : (x : X) → p x ≡ q x) (xs : List X) → filter p xs ≡ filter q xs
filter_same p q same [] = refl
filter_same p q same (x ∷ xs) = rw (same x, filter_same p q same xs) refl

pub first_append : {A : Type 0} (xs ys : List (Option A)) → first_some (xs ++ ys) ≡ or_else (first_some xs) (first_some ys)
first_append [] ys = refl
first_append (Some a ∷ xs) ys = refl
first_append (None ∷ xs) ys = first_append xs ys
