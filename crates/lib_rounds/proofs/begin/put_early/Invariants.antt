use Rattle.std.proofs.Common.{◌≡◌}
use Rattle.std.specs.Vec.Iter.{into_iter_len}
use Rattle.lib_rounds.proofs.begin.put_early.Given as goal

abbrev pub invariant-loop-member : goal.invariant-loop-member
invariant-loop-member l = l.slots.items ≡ l.initial.slots.items

abbrev pub decreases-loop-member : goal.decreases-loop-member
decreases-loop-member l = into_iter_len l.left
