use Rattle.std.proofs.Common.{◌≡◌}
use Rattle.feature_section.specs.Conflict.{lacking}
use Rattle.feature_section.proofs.conflict.lacking.Given as goal

abbrev pub invariant-loop-name : goal.invariant-loop-name
invariant-loop-name l =
    (goal.iterator-loop-name).can_next l.name-iterator ×
    (goal.iterator-loop-name).is_finite l.name-iterator ×
    (lacking l.names.keys l.object l.name-iterator ≡ lacking l.names.keys l.object l.required.entries)
