use Rattle.std.proofs.Common.{◌≡◌, ◌++◌}
use Rattle.std.specs.Vec.Iter.{into_iter_items, into_iter_len}
use Rattle.name_entries.proofs.pieces.add_parts.Given as goal

abbrev pub invariant-loop-own : goal.invariant-loop-own
invariant-loop-own l = l.parts ++ into_iter_items l.left ≡ l.fn.parts ++ l.fn.more

abbrev pub decreases-loop-own : goal.decreases-loop-own
decreases-loop-own l = into_iter_len l.left
