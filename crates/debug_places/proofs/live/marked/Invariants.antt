use Rattle.std.proofs.Common.{◌≡◌, ◌==◌, ℕ, false, drop}
use Rattle.std.specs.Prelude.{◌||◌, slice_index_or}
use Rattle.std.specs.List.{list_any}
use Rattle.debug_places.proofs.live.marked.Given as goal

abbrev pub invariant-loop-number : goal.invariant-loop-number
invariant-loop-number l = (k : ℕ) → (slice_index_or l.table.items k false || list_any (λ n. k == n) (drop l.number-index l.live)) ≡ list_any (λ n. k == n) l.live
