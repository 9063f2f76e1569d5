-- Where an object of an input stands among objects whose inputs rise.
use Rattle.std.proofs.Common.{◌≡◌, ℕ, zero, suc, ◌<◌, ◌≤◌, ◌==◌, List, [], ◌∷◌, length, get_or, slice_get, Result, Ok, Err, Some, None, refl, ap, ◌∙◌, subst, arith, inl, inr, find, option_and_then}
use Rattle.std.specs.Ordering.{nat_cmp, ordering_index, MatchOrdering}
use Rattle.std.specs.declared.cmp.Ordering.{Ordering}
use Rattle.std.specs.declared.cmp.Ordering.TheVariants.{Less, Equal, Greater}
use Rattle.std.specs.Result.{result_ok}
use Rattle.std.specs.List.Sorted.{IsBinarySearchResult, IsSearchInRange}
use Rattle.std.proofs.lemmas.Bool.{cases_lt, eq-eqb, ne_eqb}
use Rattle.std.proofs.lemmas.Cmp.{ranked}
use Rattle.std.proofs.lemmas.List.Sums.{position_or_len_is}
use Rattle.std.proofs.lemmas.List.Folds.{find_at}
use Rattle.std.proofs.lemmas.Option.{slice_get_past}
use Rattle.partial_tree.specs.link_program.object_file.declared.object.Object.{Object}
use Rattle.partial_tree.specs.link_program.name_entries.View.{InputsRise}

lower : (a b : ℕ) → nat_cmp a b ≡ Less → a < b
lower a b h = subst (λ o. MatchOrdering o (a < b) (a ≡ b) (b < a)) h (ranked a b (nat_cmp a b) refl)

equal : (a b : ℕ) → nat_cmp a b ≡ Equal → a ≡ b
equal a b h = subst (λ o. MatchOrdering o (a < b) (a ≡ b) (b < a)) h (ranked a b (nat_cmp a b) refl)

higher : (a b : ℕ) → nat_cmp a b ≡ Greater → b < a
higher a b h = subst (λ o. MatchOrdering o (a < b) (a ≡ b) (b < a)) h (ranked a b (nat_cmp a b) refl)

ranks_rise : (a b x : ℕ) → a ≤ b → ordering_index (nat_cmp a x) ≤ ordering_index (nat_cmp b x)
ranks_rise a b x le = by (nat_cmp a x) (nat_cmp b x) (ranked a x (nat_cmp a x) refl) (ranked b x (nat_cmp b x) refl)
  where
    by : (o q : Ordering) → MatchOrdering o (a < x) (a ≡ x) (x < a) → MatchOrdering q (b < x) (b ≡ x) (x < b) → ordering_index o ≤ ordering_index q
    by Less Less h k = omega arith
    by Less Equal h k = omega arith
    by Less Greater h k = omega arith
    by Equal Less h k = absurd (omega (arith, h, k, le))
    by Equal Equal h k = omega arith
    by Equal Greater h k = omega arith
    by Greater Less h k = absurd (omega (arith, h, k, le))
    by Greater Equal h k = absurd (omega (arith, h, k, le))
    by Greater Greater h k = omega arith

module _ {A : Type 0} (key : A → ℕ) (x : ℕ) (xs : List A) (d : A) (rise : (i j : ℕ) → i < j → j < length xs → key (get_or xs i d) < key (get_or xs j d)) where
  not_falling : (i j : ℕ) → i ≤ j → j < length xs → key (get_or xs i d) ≤ key (get_or xs j d)
  not_falling i j le within =
      elim (cases_lt i j) [
        | inl lt ↦ omega (arith, rise i j lt within)
        | inr ge ↦ let same : i ≡ j = omega (arith, le, ge) in subst (λ k. key (get_or xs i d) ≤ key (get_or xs k d)) same (omega arith)
      ]

  found_at : (i : ℕ) → i < length xs → key (get_or xs i d) ≡ x → find (λ a. key a == x) xs ≡ slice_get xs i
  found_at i within is =
      find_at (λ a. key a == x) xs
      ∙ ap (slice_get xs) (position_or_len_is (λ a. key a == x) xs i d (omega (arith, within))
      (λ k below. ne_eqb (key (get_or xs k d)) x (λ e. omega (arith, rise k i below within, e, is)))
      (λ lt. eq-eqb (key (get_or xs i d)) x is))

  found_nowhere : ((k : ℕ) → k < length xs → key (get_or xs k d) ≡ x → ⊥) → find (λ a. key a == x) xs ≡ None
  found_nowhere none =
      find_at (λ a. key a == x) xs
      ∙ ap (slice_get xs) (position_or_len_is (λ a. key a == x) xs (length xs) d (omega arith)
      (λ k below. ne_eqb (key (get_or xs k d)) x (none k below))
      (λ lt. absurd (omega (arith, lt))))
      ∙ slice_get_past xs (length xs) (omega arith)

module _ {A : Type 0} (key : A → ℕ) (x : ℕ) where
  found_with : (xs : List A) (d : A) (r : Result ℕ ℕ) → ((i j : ℕ) (d : A) → i < j → j < length xs → key (get_or xs i d) < key (get_or xs j d)) → IsSearchInRange r (length xs)
      → IsBinarySearchResult (λ a. nat_cmp (key a) x) xs r → find (λ a. key a == x) xs ≡ option_and_then (slice_get xs) (result_ok r)
  found_with xs d (Ok i) rise within is = found_at key x xs d (λ i j. rise i j d) i within (equal (key (get_or xs i d)) x (is d))
  found_with xs d (Err i) rise within is =
      let parts = is (λ a b e le lt. ranks_rise (key (get_or xs a e)) (key (get_or xs b e)) x (not_falling key x xs e (λ i j. rise i j e) a b le lt)) in
      found_nowhere key x xs d (λ i j. rise i j d) (λ k below e. elim (cases_lt k i) as (λ _. ⊥) [
        | inl lt ↦ omega (arith, lower (key (get_or xs k d)) x (parts.0 k d (omega arith) lt), e)
        | inr ge ↦ omega (arith, higher (key (get_or xs k d)) x (parts.1 k d ge below), e)
      ])

  found_by : (xs : List A) (r : Result ℕ ℕ) → ((i j : ℕ) (d : A) → i < j → j < length xs → key (get_or xs i d) < key (get_or xs j d)) → IsSearchInRange r (length xs)
      → IsBinarySearchResult (λ a. nat_cmp (key a) x) xs r → find (λ a. key a == x) xs ≡ option_and_then (slice_get xs) (result_ok r)
  found_by [] (Ok i) rise within is = refl
  found_by [] (Err i) rise within is = refl
  found_by (a ∷ xs) r rise within is = found_with (a ∷ xs) a r rise within is

-- ---- inputs that rise

above : (last : ℕ) (os : List Object) → InputsRise last os → (k : ℕ) (d : Object) → k < length os → last < (get_or os k d).input
above last [] h k d lt = absurd (omega arith)
above last (o ∷ os) h zero d lt = h.0
above last (o ∷ os) h (suc k) d lt = omega (arith, h.0, above o.input os h.2 k d (omega arith))

pub inputs_rise : (last : ℕ) (os : List Object) → InputsRise last os → (i j : ℕ) (d : Object) → i < j → j < length os → (get_or os i d).input < (get_or os j d).input
inputs_rise last [] h i j d lt within = absurd (omega arith)
inputs_rise last (o ∷ os) h zero zero d lt within = absurd (omega arith)
inputs_rise last (o ∷ os) h zero (suc j) d lt within = above o.input os h.2 j d (omega arith)
inputs_rise last (o ∷ os) h (suc i) zero d lt within = absurd (omega arith)
inputs_rise last (o ∷ os) h (suc i) (suc j) d lt within = inputs_rise o.input os h.2 i j d (omega arith) (omega arith)

-- what a binary search by input finds
pub found : (os : List Object) (x : ℕ) (r : Result ℕ ℕ) → InputsRise 0 os → IsSearchInRange r (length os)
    → IsBinarySearchResult (λ (o : Object). nat_cmp o.input x) os r → find (λ (o : Object). o.input == x) os ≡ option_and_then (slice_get os) (result_ok r)
found os x r h within is = found_by (λ (o : Object). o.input) x os r (λ i j d. inputs_rise 0 os h i j d) within is

-- the object that stands at a place is that of its input
pub found_itself : (os : List Object) (k : ℕ) (d : Object) → InputsRise 0 os → k < length os → find (λ (o : Object). o.input == (get_or os k d).input) os ≡ Some (get_or os k d)
found_itself os k d h lt = found_at (λ (o : Object). o.input) (get_or os k d).input os d (λ i j. inputs_rise 0 os h i j d) k lt refl ∙ slice_at os k d lt
  where
    slice_at : (xs : List Object) (k : ℕ) (d : Object) → k < length xs → slice_get xs k ≡ Some (get_or xs k d)
    slice_at [] k d lt = absurd (omega arith)
    slice_at (y ∷ ys) zero d lt = refl
    slice_at (y ∷ ys) (suc k) d lt = slice_at ys k d (omega arith)
