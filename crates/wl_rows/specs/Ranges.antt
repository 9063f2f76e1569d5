-- Ranges of jobs, one for each worker.
use Rattle.std.specs.Prelude.{ℕ, ◌≤◌, List, ◌∷◌, length, slice_index_or}

-- Where the jobs of a worker begin: those of the first at the front, those of each other one at a cut, and behind the last one is the end.
abbrev pub first_at : List ℕ → ℕ → ℕ → ℕ
first_at cuts count worker = slice_index_or (0 ∷ cuts) worker count

-- No worker begins before the one before it.
abbrev pub Rising : List ℕ → ℕ → Type 0
Rising cuts count = (p q : ℕ) → p ≤ q → first_at cuts count p ≤ first_at cuts count q

-- Cuts, so many at most, that rise to the end.
pub record AreRanges (most : ℕ) (cuts : List ℕ) (count : ℕ) : Type 0 where
  pub rising : Rising cuts count
  pub few : length cuts ≤ most
