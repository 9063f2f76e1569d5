use Rattle.std.proofs.Common.{◌≡◌, drop}
use Rattle.link_inputs.specs.Reading.{fault_of, whole_before}
use Rattle.link_inputs.proofs.whole.read_whole.Given as goal

abbrev pub invariant-loop-at : goal.invariant-loop-at
invariant-loop-at l = fault_of (whole_before l.files l.input (drop l.at l.libraries)) ≡ fault_of (whole_before l.files l.input l.libraries)
