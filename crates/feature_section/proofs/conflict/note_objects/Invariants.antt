use Rattle.std.proofs.Common.{◌≡◌, drop}
use Rattle.feature_section.specs.Conflict.{said_by}
use Rattle.feature_section.proofs.conflict.note_objects.Given as goal

abbrev pub invariant-loop-object : goal.invariant-loop-object
invariant-loop-object l = said_by l.mark l.object l.sayings.entries (drop l.object l.objects) ≡ said_by l.mark 0 l.fn.sayings.entries l.objects
