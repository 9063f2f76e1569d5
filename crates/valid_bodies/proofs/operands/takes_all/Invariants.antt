use Rattle.std.proofs.Common.{◌≡◌, ◌≤◌, take, length, reverse}
use Rattle.valid_rules.specs.Reading.{take_all}
use Rattle.valid_bodies.proofs.operands.takes_all.Given as goal

abbrev pub invariant-loop-left : goal.invariant-loop-left
invariant-loop-left l = record {
  within : l.left ≤ length l.kinds;
  own : take_all l.unreachable (reverse (take l.left l.kinds)) l.operands.own ≡ take_all l.unreachable (reverse l.kinds) l.initial.operands.own;
  below : l.operands.below ≡ l.initial.operands.below;
}

abbrev pub decreases-loop-left : goal.decreases-loop-left
decreases-loop-left l = l.left
