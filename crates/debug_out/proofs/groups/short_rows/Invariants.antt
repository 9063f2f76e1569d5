use Rattle.std.proofs.Common.{◌≡◌, ◌++◌, drop}
use Rattle.debug_out.proofs.groups.short_rows.Given as goal

abbrev pub invariant-loop-row : goal.invariant-loop-row
invariant-loop-row l = l.short ++ drop l.row-index l.rows ≡ l.rows
