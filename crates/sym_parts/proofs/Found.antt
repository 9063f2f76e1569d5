-- Items by their places.
use Rattle.std.proofs.Common.{◌≡◌, ℕ, suc, ◌==◌, nat_eq, ◌&&◌, Bool, true, false, List, [], ◌∷◌, map, slice_get, get_or, position, Option, Some, None, option_map, refl, ap, ◌∙◌, arith}
use Rattle.std.specs.Prelude.{find, cond, option_and_then}
use Rattle.std.proofs.lemmas.Bool.Decides.{nat_tests}
use Rattle.link_program.specs.declared.named.Named.{Named}
use Rattle.link_keys.specs.Codes.{same_code}
use Rattle.link_keys.proofs.Positions.{position_first, position_next, position_of_map}
use Rattle.link_numbers.specs.Places.{place_of}
use Rattle.sym_parts.specs.Sought.{named_place, named_at, place_code}

-- What is found stands at its place.
by_place : {A : Type 0} (test : A → Bool) (xs : List A) → option_and_then (slice_get xs) (position test xs) ≡ find test xs
by_place test [] = refl
by_place {A} test (x ∷ xs) = by_head (test x) refl (by_place test xs)
  where
    onward : (o : Option ℕ) → option_and_then (slice_get (x ∷ xs)) (option_map suc o) ≡ option_and_then (slice_get xs) o
    onward None = refl
    onward (Some n) = refl

    by_head : (r : Bool) → test x ≡ r → option_and_then (slice_get xs) (position test xs) ≡ find test xs → option_and_then (slice_get (x ∷ xs)) (position test (x ∷ xs)) ≡ cond r (Some x) (find test xs)
    by_head true is again = ap (option_and_then (slice_get (x ∷ xs))) (position_first test x xs is)
    by_head false is again = ap (option_and_then (slice_get (x ∷ xs))) (position_next test x xs is) ∙ onward (position test xs) ∙ again

one_code : (place : ℕ) (n : ℕ) → (nat_eq 0 0 && (nat_eq 0 0 && nat_eq place n)) ≡ (n == place)
one_code place n = grind (arith, nat_tests)

pub found_at : (row : List Named) (place : ℕ) → option_and_then (slice_get row) (place_of (map place_code row) (record { kind = 0; input = 0; index = place })) ≡ named_at row place
found_at row place =
    ap (option_and_then (slice_get row)) (position_of_map place_code (λ n. named_place n == place) (same_code (record { kind = 0; input = 0; index = place })) row (λ k d below. one_code place (named_place (get_or row k d))))
    ∙ by_place (λ n. named_place n == place) row
