use Rattle.std.proofs.Common.{◌≡◌, drop}
use Rattle.feature_section.specs.Conflict.{conflict_from}
use Rattle.feature_section.proofs.conflict.conflict_among.Given as goal

abbrev pub invariant-loop-object : goal.invariant-loop-object
invariant-loop-object l = conflict_from l.disallowed.entries l.required.entries l.object (drop l.object l.objects) ≡ conflict_from l.disallowed.entries l.required.entries 0 l.objects
