use Rattle.std.proofs.Common.{◌≡◌, drop}
use Rattle.marking_tests.specs.Graphs.{rows_below}
use Rattle.marking_tests.proofs.liveness.rows_in_range.Given as goal

abbrev pub invariant-loop-at : goal.invariant-loop-at
invariant-loop-at l = rows_below l.count (drop l.at l.rows) ≡ rows_below l.count l.rows
