use Rattle.std.proofs.Common.{◌≡◌, ◌+◌, ◌-◌}
use Rattle.run_rules.specs.Memory.{stored}
use Rattle.run_numbers.proofs.bytes.put_at.Given as goal

abbrev pub invariant-loop-i : goal.invariant-loop-i
invariant-loop-i l = stored (l.count - l.i) (l.at + l.i) l.rest l.memory ≡ stored l.count l.at l.n l.fn.memory
