use Rattle.std.proofs.Common.{◌≡◌, ◌≤◌, take, drop, length, reverse, is_some}
use Rattle.valid_rules.specs.Reading.{take_all}
use Rattle.valid_bodies.proofs.operands.has_all.Given as goal

abbrev pub invariant-loop-left : goal.invariant-loop-left
invariant-loop-left l =
    (l.left ≤ length l.kinds) × (l.at ≤ length l.operands.own) × (length l.operands.own ≡ l.height)
    × (is_some (take_all l.unreachable (reverse (take l.left l.kinds)) (drop l.at l.operands.own)) ≡ is_some (take_all l.unreachable (reverse l.kinds) l.operands.own))

abbrev pub decreases-loop-left : goal.decreases-loop-left
decreases-loop-left l = l.left
