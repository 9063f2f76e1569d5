use Rattle.std.proofs.Common.{◌≡◌, length}
use Rattle.object_features.specs.Check.{first_outside}
use Rattle.object_features.proofs.check.first_outside.Given as goal

abbrev pub invariant-loop-ns : goal.invariant-loop-ns
invariant-loop-ns l = first_outside l.names l.ns l.os ≡ first_outside l.names l.numbers l.objects

abbrev pub decreases-loop-ns : goal.decreases-loop-ns
decreases-loop-ns l = length l.ns
