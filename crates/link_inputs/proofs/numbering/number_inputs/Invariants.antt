use Rattle.std.specs.Vec.Iter.{into_iter_items, into_iter_len}
use Rattle.link_inputs.proofs.Numbers.{Numbering}
use Rattle.link_inputs.proofs.numbering.number_inputs.Given as goal

abbrev pub invariant-loop-opened : goal.invariant-loop-opened
invariant-loop-opened l = Numbering l.words l.fn.opened l.file l.input (into_iter_items l.left) l.sources

abbrev pub decreases-loop-opened : goal.decreases-loop-opened
decreases-loop-opened l = into_iter_len l.left
