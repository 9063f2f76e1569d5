-- Places that are noted one after another.
use Rattle.std.proofs.Common.{◌≡◌, ℕ, zero, suc, ◌+◌, ◌<◌, Bool, true, false, cond, List, [], ◌∷◌, ◌++◌, length, take, map, filter, get_or, slice_get, Option, Some, None, refl, sym, ap, ◌∙◌, arith}
use Rattle.std.proofs.lemmas.List.{map-append}
use Rattle.std.proofs.lemmas.List.Elements.{filter_more}
use Rattle.std.proofs.lemmas.Option.{slice_get_within, get_or_from_slice_get}

at_end : {A : Type 0} (ys : List A) → ys ≡ ys ++ []
at_end [] = refl
at_end (y ∷ ys) = ap (λ rest. y ∷ rest) (at_end ys)

-- the places so far are those of the elements that pass, and so are they with the next element
pub noted : {A : Type 0} (test : A → Bool) (xs : List A) (places after : List ℕ) (at : ℕ) (x : A) → slice_get xs at ≡ Some x
    → after ≡ cond (test x) (places ++ at ∷ []) places
    → map (slice_get xs) places ≡ map (λ x. Some x) (filter test (take at xs))
    → map (slice_get xs) after ≡ map (λ x. Some x) (filter test (take (at + 1) xs))
noted {A = A} test xs places after at x there pushed so_far =
    let is : get_or xs at x ≡ x = get_or_from_slice_get xs at x x there in
    let lt : at < length xs = slice_get_within xs at x there in
    by (test x) refl ∙ sym (ap (map (λ x. Some x)) (filter_more test xs at x lt ∙ ap (λ y. filter test (take at xs) ++ cond (test y) (y ∷ []) []) is))
  where
    by : (b : Bool) → test x ≡ b → map (slice_get xs) after ≡ map (λ x. Some x) (filter test (take at xs) ++ cond (test x) (x ∷ []) [])
    by true e = rw (
      pushed,
      e,
      map-append (slice_get xs) places (at ∷ []),
      map-append {A = A} {B = Option A} (λ x. Some x)
          (filter test (take at xs)) (x ∷ []),
      so_far,
      there,
    ) refl
    by false e = rw (pushed, e, map-append {A = A} {B = Option A} (λ x. Some x) (filter test (take at xs)) [], so_far)
        (at_end (map (λ x. Some x) (filter test (take at xs))))

-- ---- past the end

pub none_there : {A : Type 0} (xs : List A) (at : ℕ) → None ≡ slice_get xs at → take (at + 1) xs ≡ take at xs
none_there {A = A} [] at none = nothing (at + 1) ∙ sym (nothing at)
  where
    nothing : (n : ℕ) → take {A = A} n [] ≡ []
    nothing zero = refl
    nothing (suc n) = refl
none_there (x ∷ xs) zero none = absurd cc
none_there (x ∷ xs) (suc at) none =
    let e : suc at + 1 ≡ suc (at + 1) = omega arith in
    ap (λ n. take n (x ∷ xs)) e ∙ ap (λ ys. x ∷ ys) (none_there xs at none)
