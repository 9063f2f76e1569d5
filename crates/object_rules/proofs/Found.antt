-- An import is found by its index among those of its kind.
use Rattle.std.proofs.Common.{◌≡◌, ℕ, ◌+◌, ◌<◌, Bool, true, false, List, [], ◌∷◌, ◌++◌, length, take, map, filter, get_or, slice_get, Option, Some, None, refl, sym, ap, ◌∙◌}
use Rattle.std.proofs.lemmas.List.{map-append}
use Rattle.std.proofs.lemmas.List.Elements.{filter_more}
use Rattle.std.proofs.lemmas.Option.{slice_get-map, slice_get-get_or}
use Rattle.std.specs.Option.{option_map}

-- one element more that passes
pub one_more : {A : Type 0} (test : A → Bool) (xs : List A) (places after : List ℕ) (i : ℕ) (d : A) → i < length xs → test (get_or xs i d) ≡ true → after ≡ places ++ i ∷ []
    → map (slice_get xs) places ≡ map (λ x. Some x) (filter test (take i xs)) → map (slice_get xs) after ≡ map (λ x. Some x) (filter test (take (i + 1) xs))
one_more {A = A} test xs places after i d lt passes pushed so_far =
    rw (pushed, filter_more test xs i d lt, passes, map-append (slice_get xs) places (i ∷ []), map-append {A = A} {B = Option A} (λ x. Some x) (filter test (take i xs)) (get_or xs i d ∷ []), so_far, slice_get-get_or xs i d lt) refl

-- one that doesn't
pub none_more : {A : Type 0} (test : A → Bool) (xs : List A) (places : List ℕ) (i : ℕ) (d : A) → i < length xs → test (get_or xs i d) ≡ false
    → map (slice_get xs) places ≡ map (λ x. Some x) (filter test (take i xs)) → map (slice_get xs) places ≡ map (λ x. Some x) (filter test (take (i + 1) xs))
none_more {A = A} test xs places i d lt fails so_far =
    rw (filter_more test xs i d lt, fails, map-append {A = A} {B = Option A} (λ x. Some x) (filter test (take i xs)) [], so_far) (at_end (map (λ x. Some x) (filter test (take i xs))))
  where
    at_end : (ys : List (Option A)) → ys ≡ ys ++ []
    at_end [] = refl
    at_end (y ∷ ys) = ap (λ rest. y ∷ rest) (at_end ys)

looked_up : {A : Type 0} (xs ys : List A) (places : List ℕ) (k : ℕ) → map (slice_get xs) places ≡ map (λ x. Some x) ys → option_map (slice_get xs) (slice_get places k) ≡ option_map (λ x. Some x) (slice_get ys k)
looked_up {A = A} xs ys places k held =
    sym (slice_get-map (slice_get xs) places k) ∙ ap (λ zs. slice_get zs k) held ∙ slice_get-map {A = A} {B = Option A} (λ x. Some x) ys k

-- the index is past them
pub missed : {A : Type 0} (xs ys : List A) (places : List ℕ) (k : ℕ) → map (slice_get xs) places ≡ map (λ x. Some x) ys → slice_get places k ≡ None → slice_get ys k ≡ None
missed {A = A} xs ys places k held none = by (slice_get ys k) (ap (option_map (slice_get xs)) (sym none) ∙ looked_up xs ys places k held)
  where
    by : (found : Option A) → None ≡ option_map (λ x. Some x) found → found ≡ None
    by None e = refl
    by (Some x) e = cc

-- the index is that of one of them
pub found : {A : Type 0} (xs ys : List A) (places : List ℕ) (k at : ℕ) → map (slice_get xs) places ≡ map (λ x. Some x) ys → slice_get places k ≡ Some at → slice_get ys k ≡ slice_get xs at
found {A = A} xs ys places k at held some = by (slice_get ys k) (ap (option_map (slice_get xs)) (sym some) ∙ looked_up xs ys places k held)
  where
    by : (x : Option A) → Some (slice_get xs at) ≡ option_map (λ x. Some x) x → x ≡ slice_get xs at
    by None e = cc
    by (Some x) e = cc
