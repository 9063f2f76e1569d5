-- Where a number stands in a list that rises.
use Rattle.std.proofs.Common.{◌≡◌, ◌≢◌, ℕ, ◌<◌, ◌≤◌, List, sym, arith, length, nat_eq, Some, None, Result, Ok, Err}
use Rattle.std.specs.Prelude.{slice_index, position, MatchResult}
use Rattle.std.specs.Ordering.{nat_cmp}
use Rattle.std.specs.List.Sorted.{IsBinarySearchResult}
use mathlib.Core.Logic.{dite}
use native.Mathlib.Decide.{dec_lt}
use Rattle.std.proofs.lemmas.Bool.{ne_eqb}
use Rattle.std.proofs.lemmas.Grind.{common_steps}
use Rattle.std.proofs.lemmas.List.Sorted.{searched}
use Rattle.std.proofs.lemmas.List.Sums.{position_or_len_is}
use Rattle.table_layout.specs.Slots.{Rises}

module _ (xs : List ℕ) (f : ℕ) where
  stands_at : (i : ℕ) → Rises xs → i < length xs → slice_index xs i ≡ f → position (λ t. nat_eq f t) xs ≡ Some i
  stands_at i rises below is =
      let place = position_or_len_is (nat_eq f) xs i 0 (omega arith)
      (λ k lower. let less = rises k i 0 lower below in ne_eqb f (slice_index xs k) (λ same. omega (arith, less, is, same)))
      (λ inside. rw is (grind (arith, common_steps))) in
      rw place (grind (arith, common_steps))

  stands_nowhere : ((k : ℕ) → k < length xs → slice_index xs k ≢ f) → position (λ t. nat_eq f t) xs ≡ None
  stands_nowhere none =
      let place = position_or_len_is (nat_eq f) xs (length xs) 0 (omega arith)
      (λ k lower. ne_eqb f (slice_index xs k) (λ same. none k lower (sym same)))
      (λ inside. absurd (omega arith)) in
      rw place (grind (arith, common_steps))

  module _ (rises : Rises xs) where
    weakly : (i j : ℕ) → i ≤ j → j < length xs → slice_index xs i ≤ slice_index xs j
    weakly i j le below = dite (dec_lt i j)
        (λ lower. omega (arith, rises i j 0 lower below))
        (λ other. let same : i ≡ j = omega arith in rw same (omega arith))

    -- a binary search finds the place
    pub found_at : (r : Result ℕ ℕ) → IsBinarySearchResult (λ y. nat_cmp y f) xs r
        → MatchResult r (λ i. position (λ t. nat_eq f t) xs ≡ Some i) (λ i. position (λ t. nat_eq f t) xs ≡ None)
    found_at (Ok i) is = let s = searched xs f (Ok i) is weakly in stands_at i rises s.0 s.1
    found_at (Err i) is =
        let s = searched xs f (Err i) is weakly in
        stands_nowhere (λ k below same. dite (dec_lt k i)
        (λ lower. omega (arith, s.1 k lower, same))
        (λ other. omega (arith, s.2 k (omega arith) below, same)))
