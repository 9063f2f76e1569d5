use Rattle.std.proofs.Common.{◌≡◌, ℕ, List, length}
use Rattle.std.specs.Vec.Iter.{into_iter_items, into_iter_len}
use Rattle.link_inputs.specs.declared.numbering.ObjectFile.{ObjectFile}
use Rattle.link_inputs.specs.Reading.{AreRead, given_from}
use Rattle.link_inputs.proofs.Taking.{Left}
use Rattle.link_inputs.proofs.reading.take_given.Given as goal

abbrev pub invariant-loop-slot : goal.invariant-loop-slot
invariant-loop-slot l = (into_iter_len l.left ≡ length (into_iter_items l.left))
    × ((files : List (List ℕ)) (objects : List ObjectFile) → AreRead files objects l.fn.slots.items
    → Left files l.given (into_iter_items l.left) (given_from files objects))

abbrev pub decreases-loop-slot : goal.decreases-loop-slot
decreases-loop-slot l = into_iter_len l.left
