use Rattle.body_check.specs.Table.{Tells}
use Rattle.body_check.proofs.Stretches.{Left}
use Rattle.body_check.proofs.table.others_of.Given as goal

abbrev pub invariant-loop-at : goal.invariant-loop-at
invariant-loop-at l = Tells l.params l.runs l.others × Left l.params l.runs l.from l.at
