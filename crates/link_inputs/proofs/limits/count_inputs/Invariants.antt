use Rattle.std.proofs.Common.{◌≡◌, ◌+◌, drop}
use Rattle.link_inputs.specs.Opened.{input_count}
use Rattle.link_inputs.proofs.limits.count_inputs.Given as goal

abbrev pub invariant-loop-file : goal.invariant-loop-file
invariant-loop-file l = l.count + input_count (drop l.file-index l.opened) ≡ input_count l.opened
