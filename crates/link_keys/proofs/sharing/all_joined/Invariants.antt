use Rattle.std.proofs.Common.{◌≡◌, Some, fold}
use Rattle.std.specs.Vec.Iter.{into_iter_items, into_iter_len}
use Rattle.link_keys.specs.Joined.{both_joined, joined_all}
use Rattle.link_keys.proofs.sharing.all_joined.Given as goal

abbrev pub invariant-loop-slot : goal.invariant-loop-slot
invariant-loop-slot l = fold both_joined (Some l.marks) (into_iter_items l.left) ≡ joined_all l.fn.slots.items

abbrev pub decreases-loop-slot : goal.decreases-loop-slot
decreases-loop-slot l = into_iter_len l.left
