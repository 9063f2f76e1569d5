use Rattle.std.proofs.Common.{◌≡◌, ◌+◌, drop}
use Rattle.valid_objects.specs.Objects.{first_refused}
use Rattle.valid_objects.proofs.validating.first_refused.Given as goal

abbrev pub invariant-loop-at : goal.invariant-loop-at
invariant-loop-at l = first_refused l.o l.bytes (l.first + l.at) (drop l.at l.o.functions) ≡ first_refused l.o l.bytes l.first l.o.functions
