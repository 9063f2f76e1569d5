use Rattle.std.proofs.Common.{◌≡◌, length, nat_eq}
use Rattle.object_rules.specs.Differ.{all_differ}
use Rattle.object_rules.proofs.differ.pairs_differ.Given as goal

abbrev pub invariant-loop-left : goal.invariant-loop-left
invariant-loop-left l = all_differ nat_eq l.left ≡ all_differ nat_eq l.numbers

abbrev pub decreases-loop-left : goal.decreases-loop-left
decreases-loop-left l = length l.left
