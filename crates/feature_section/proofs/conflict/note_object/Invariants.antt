use Rattle.std.proofs.Common.{◌≡◌, drop}
use Rattle.feature_section.specs.Conflict.{said_from}
use Rattle.feature_section.proofs.conflict.note_object.Given as goal

abbrev pub invariant-loop-place : goal.invariant-loop-place
invariant-loop-place l = said_from l.mark l.object l.place l.sayings.entries (drop l.place l.features) ≡ said_from l.mark l.object 0 l.fn.sayings.entries l.features
