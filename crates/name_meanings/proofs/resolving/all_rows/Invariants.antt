use Rattle.name_meanings.specs.Known.{Resolves}
use Rattle.name_meanings.proofs.resolving.all_rows.Given as goal

abbrev pub invariant-loop-object : goal.invariant-loop-object
invariant-loop-object l = Resolves l.known l.rows l.found l.object
