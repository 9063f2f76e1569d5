use Rattle.std.proofs.Common.{◌≡◌, ◌++◌, drop}
use Rattle.driver_lines.specs.Members.{input_names}
use Rattle.driver_lines.proofs.inputs.input_names.Given as goal

abbrev pub invariant-loop-at : goal.invariant-loop-at
invariant-loop-at l = l.all ++ input_names (drop l.at l.names) (drop l.at l.files) ≡ input_names l.names l.files
