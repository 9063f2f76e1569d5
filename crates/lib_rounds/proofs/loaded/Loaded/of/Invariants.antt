use Rattle.std.proofs.Common.{◌≡◌, ◌++◌}
use Rattle.std.specs.Vec.Iter.{into_iter_items, into_iter_len}
use Rattle.lib_rounds.specs.Held.{loaded_objects}
use Rattle.lib_rounds.proofs.loaded.Loaded.of.Given as goal

abbrev pub invariant-loop-slot : goal.invariant-loop-slot
invariant-loop-slot l = l.objects ++ loaded_objects (into_iter_items l.left) ≡ loaded_objects l.fn.slots.items

abbrev pub decreases-loop-slot : goal.decreases-loop-slot
decreases-loop-slot l = into_iter_len l.left
