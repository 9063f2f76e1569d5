use Rattle.std.proofs.Common.{◌≡◌}
use Rattle.case_objects.specs.Objects.{objects_below}
use Rattle.case_objects.proofs.made.make_case.Given as goal

abbrev pub invariant-loop-number : goal.invariant-loop-number
invariant-loop-number l = l.files ≡ objects_below l.n l.number
