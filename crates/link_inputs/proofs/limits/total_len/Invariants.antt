use Rattle.std.proofs.Common.{◌≡◌, ◌+◌, ◌-◌, ◌^◌, ◌≤◌, min, drop}
use Rattle.link_program.specs.link_rules.Candidates.{total_len}
use Rattle.link_inputs.proofs.limits.total_len.Given as goal

abbrev pub invariant-loop-file : goal.invariant-loop-file
invariant-loop-file l = (l.total ≤ 2 ^ 64 - 1) × (min (l.total + total_len (drop l.file-index l.files)) (2 ^ 64 - 1) ≡ min (total_len l.files) (2 ^ 64 - 1))
