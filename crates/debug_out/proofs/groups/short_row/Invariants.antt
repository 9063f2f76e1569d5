use Rattle.std.proofs.Common.{◌≡◌, ◌++◌, drop}
use Rattle.debug_out.proofs.groups.short_row.Given as goal

abbrev pub invariant-loop-begin : goal.invariant-loop-begin
invariant-loop-begin l = l.short ++ drop l.begin-index l.row ≡ l.row
