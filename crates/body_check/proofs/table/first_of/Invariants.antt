use Rattle.std.proofs.Common.{◌≡◌, ◌++◌, drop}
use Rattle.body_check.specs.Table.{spread}
use Rattle.body_check.proofs.table.first_of.Given as goal

abbrev pub invariant-loop-at : goal.invariant-loop-at
invariant-loop-at l = l.first ++ spread (drop l.at l.runs) ≡ l.params ++ spread l.runs
