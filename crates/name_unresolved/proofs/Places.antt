-- Where an object of an input stands among objects whose inputs rise.
use Rattle.std.proofs.Common.{◌≡◌, ℕ, zero, suc, ◌<◌, ◌≤◌, ◌==◌, List, [], ◌∷◌, length, get_or, map, slice_get, Result, Ok, Err, refl, sym, ap, ◌∙◌, subst, arith, inl, inr}
use Rattle.std.specs.Ordering.{nat_cmp}
use Rattle.std.specs.Result.{result_ok}
use Rattle.std.specs.List.{find}
use Rattle.std.specs.Option.{option_and_then}
use Rattle.std.specs.List.Sorted.{IsStrictlyIncreasing, IsBinarySearchResult}
use Rattle.std.proofs.lemmas.Bool.{cases_lt, eq-eqb, ne_eqb}
use Rattle.std.proofs.lemmas.List.Kept.{AllPairs-from_increasing}
use Rattle.std.proofs.lemmas.List.Sums.{position_or_len_is}
use Rattle.std.proofs.lemmas.List.Sorted.{searched}
use Rattle.std.proofs.lemmas.List.Folds.{find_at}
use Rattle.std.proofs.lemmas.Option.{slice_get_past}

rises : (xs : List ℕ) → IsStrictlyIncreasing xs → (i j : ℕ) → i < j → j < length xs → get_or xs i 0 < get_or xs j 0
rises xs rise i j lt within = AllPairs-from_increasing xs rise i j 0 lt within

not_falling : (xs : List ℕ) → IsStrictlyIncreasing xs → (i j : ℕ) → i ≤ j → j < length xs → get_or xs i 0 ≤ get_or xs j 0
not_falling xs rise i j le within =
    elim (cases_lt i j) [
      | inl lt ↦ omega (arith, rises xs rise i j lt within)
      | inr ge ↦ let same : i ≡ j = omega (arith, le, ge) in subst (λ k. get_or xs i 0 ≤ get_or xs k 0) same (omega arith)
    ]

module _ {A : Type 0} (key : A → ℕ) where
  len : (xs : List A) → length (map key xs) ≡ length xs
  len [] = refl
  len (x ∷ xs) = ap suc (len xs)

  key_at : (xs : List A) (k : ℕ) (d : A) → k < length xs → get_or (map key xs) k 0 ≡ key (get_or xs k d)
  key_at [] k d lt = absurd (omega arith)
  key_at (x ∷ xs) zero d lt = refl
  key_at (x ∷ xs) (suc k) d lt = key_at xs k d (omega arith)

  found_with : (x : ℕ) (xs : List A) (d : A) (r : Result ℕ ℕ) → IsStrictlyIncreasing (map key xs) → IsBinarySearchResult (λ y. nat_cmp y x) (map key xs) r
      → find (λ a. key a == x) xs ≡ option_and_then (slice_get xs) (result_ok r)
  found_with x xs d (Ok i) rise is =
      let p = searched (map key xs) x (Ok i) is (not_falling (map key xs) rise) in
      let n = len xs in
      let within : i < length xs = omega (arith, p.0, n) in
      find_at (λ a. key a == x) xs
      ∙ ap (slice_get xs) (position_or_len_is (λ a. key a == x) xs i d (omega (arith, within))
      (λ k below. ne_eqb (key (get_or xs k d)) x (omega (arith, rises (map key xs) rise k i below p.0, p.1, key_at xs k d (omega (arith, below, within)))))
      (λ lt. eq-eqb (key (get_or xs i d)) x (sym (key_at xs i d lt) ∙ p.1)))
  found_with x xs d (Err i) rise is =
      let p = searched (map key xs) x (Err i) is (not_falling (map key xs) rise) in
      let n = len xs in
      find_at (λ a. key a == x) xs
      ∙ ap (slice_get xs) (position_or_len_is (λ a. key a == x) xs (length xs) d (omega arith)
      (λ k below. ne_eqb (key (get_or xs k d)) x (elim (cases_lt k i) [
        | inl lt ↦ omega (arith, p.1 k lt, key_at xs k d below)
        | inr ge ↦ omega (arith, p.2 k ge (omega (arith, below, n)), key_at xs k d below)
      ]))
      (λ lt. absurd (omega (arith, lt))))
      ∙ slice_get_past xs (length xs) (omega arith)

  -- the first item of a key, where the search of the rising keys found it
  pub found : (x : ℕ) (xs : List A) (r : Result ℕ ℕ) → IsStrictlyIncreasing (map key xs) → IsBinarySearchResult (λ y. nat_cmp y x) (map key xs) r
      → find (λ a. key a == x) xs ≡ option_and_then (slice_get xs) (result_ok r)
  found x [] (Ok i) rise is = refl
  found x [] (Err i) rise is = refl
  found x (a ∷ xs) r rise is = found_with x (a ∷ xs) a r rise is
