use Rattle.std.proofs.Common.{◌≡◌, drop}
use Rattle.function_names.specs.Labels.{behind_marks}
use Rattle.names_out.proofs.labels.behind_mark.Given as goal

abbrev pub invariant-loop-at : goal.invariant-loop-at
invariant-loop-at l = behind_marks 1 (drop l.at l.name) ≡ behind_marks 1 l.name
