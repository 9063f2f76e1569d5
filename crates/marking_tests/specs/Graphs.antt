-- The tests' own look at a graph.
use Rattle.std.specs.Prelude.{ℕ, Bool, List, nat_lt}
use Rattle.std.specs.List.{list_all}

-- whether each of the chunks is below the count
abbrev pub all_below : ℕ → List ℕ → Bool
all_below count cs = list_all (λ c. nat_lt c count) cs

-- whether each list of them is
abbrev pub rows_below : ℕ → List (List ℕ) → Bool
rows_below count rows = list_all (all_below count) rows
