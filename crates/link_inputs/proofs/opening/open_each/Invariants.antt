use Rattle.std.proofs.Common.{◌≡◌, drop}
use Rattle.link_inputs.specs.Opened.{opened_from}
use Rattle.link_inputs.proofs.OpenedSteps.{onto}
use Rattle.link_inputs.proofs.opening.open_each.Given as goal

abbrev pub invariant-loop-at : goal.invariant-loop-at
invariant-loop-at l = onto l.opened (opened_from l.at (drop l.at l.files)) ≡ opened_from 0 l.files
