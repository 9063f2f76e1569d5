use Rattle.std.proofs.Common.{◌≡◌, drop}
use Rattle.valid_objects.specs.Merging.{behind}
use Rattle.valid_objects.proofs.references.behind.Given as goal

abbrev pub invariant-loop-at : goal.invariant-loop-at
invariant-loop-at l = behind l.place (drop l.at l.references) ≡ behind l.place l.references
