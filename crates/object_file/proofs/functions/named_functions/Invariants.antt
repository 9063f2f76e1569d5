use Rattle.std.proofs.Common.{◌≡◌, ◌+◌, ◌++◌, drop}
use Rattle.object_file.specs.Objects.{functions_from}
use Rattle.object_file.proofs.functions.named_functions.Given as goal

abbrev pub invariant-loop-at : goal.invariant-loop-at
invariant-loop-at l = l.functions ++ functions_from l.exports (l.first + l.at) (drop l.at l.types) (drop l.at l.bodies) ≡ functions_from l.exports l.first l.types l.bodies
