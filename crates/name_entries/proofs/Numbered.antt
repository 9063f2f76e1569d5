-- The name of a number, and the number of a name.
use Rattle.std.proofs.Common.{◌≡◌, ℕ, suc, ◌+◌, ◌<◌, Bool, true, false, cond, not, List, [], ◌∷◌, length, slice_get, Some, None, refl, sym, ap, ◌∙◌, arith, nat_lt}
use Rattle.std.specs.List.{position, position_or_len}
use Rattle.std.specs.Str.{bytes_eq}
use Rattle.std.proofs.lemmas.Slice.Eq.{bytes_eq-Decides}
use Rattle.std.proofs.lemmas.Bool.Decides.{nat_tests}

at_place : {A : Type 0} (test : A → Bool) (xs : List A) → position_or_len test xs < length xs
    → (x : A) × (slice_get xs (position_or_len test xs) ≡ Some x) × (test x ≡ true)
at_place test [] lt = absurd (omega arith)
at_place {A = A} test (x ∷ xs) lt = by (test x) refl (at_place test xs) lt
  where
    by : (b : Bool) → test x ≡ b
        → (position_or_len test xs < length xs → (y : A) × (slice_get xs (position_or_len test xs) ≡ Some y) × (test y ≡ true))
        → cond (not b) (1 + position_or_len test xs) 0 < length (x ∷ xs)
        → (y : A) × (slice_get (x ∷ xs) (cond (not b) (1 + position_or_len test xs) 0) ≡ Some y) × (test y ≡ true)
    by true e rest lt = (x, refl, e)
    by false e rest lt = let e' : 1 + position_or_len test xs ≡ suc (position_or_len test xs) = omega arith in rw e' (rest (omega arith))

finish : (names : List (List ℕ)) (name x : List ℕ) (p n : ℕ) → slice_get names p ≡ Some x → name ≡ x → p ≡ n → slice_get names n ≡ Some name
finish names name x p n at same is = ap (slice_get names) (sym is) ∙ at ∙ ap {A = List ℕ} Some (sym same)

-- The number of a name is the place of that name.
pub named_by : (names : List (List ℕ)) (name : List ℕ) (n : ℕ) → position (bytes_eq name) names ≡ Some n → slice_get names n ≡ Some name
named_by names name n is = by (nat_lt (position_or_len (bytes_eq name) names) (length names)) refl is
  where
    by : (b : Bool) → nat_lt (position_or_len (bytes_eq name) names) (length names) ≡ b
        → cond b (Some (position_or_len (bytes_eq name) names)) None ≡ Some n → slice_get names n ≡ Some name
    by true lt e =
        let here : position_or_len (bytes_eq name) names < length names = grind (arith, nat_tests) in
        let found = at_place (bytes_eq name) names here in
        let same : name ≡ found.0 = (bytes_eq-Decides name found.0).0 found.2 in
        finish names name found.0 (position_or_len (bytes_eq name) names) n found.1 same cc
    by false lt e = absurd cc
