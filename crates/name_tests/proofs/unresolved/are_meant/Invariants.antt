use Rattle.std.proofs.Common.{take}
use Rattle.name_unresolved.specs.Unresolved.{AreMeant}
use Rattle.name_tests.proofs.unresolved.are_meant.Given as goal

abbrev pub invariant-loop-object : goal.invariant-loop-object
invariant-loop-object l = AreMeant l.rows (take l.object-index l.objects)
