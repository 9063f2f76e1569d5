use Rattle.std.proofs.Common.{◌≡◌, ◌≤◌, ◌-◌, ℕ, None, length, slice_index_or}
use Rattle.debug_out.proofs.groups.fill_up.Given as goal

abbrev pub invariant-loop-row : goal.invariant-loop-row
invariant-loop-row l = (length l.row ≤ l.len) × ((k : ℕ) → slice_index_or l.row k None ≡ slice_index_or l.fn.row k None)

abbrev pub decreases-loop-row : goal.decreases-loop-row
decreases-loop-row l = l.len - length l.row
