use Rattle.std.proofs.Common.{◌≡◌, ◌++◌, ◌<◌, ◌^◌, length}
use Rattle.std.specs.Vec.Iter.{into_iter_items, into_iter_len}
use Rattle.export_wrappers.specs.Wrapped.{wrapper_in, last_after, exports_from}
use Rattle.export_wrappers.proofs.exports.exports_from.Given as goal

abbrev pub invariant-loop-next : goal.invariant-loop-next
invariant-loop-next l =
    (l.all ++ exports_from l.asked (wrapper_in l.types l.imports l.functions) l.next (into_iter_items l.left) ≡ exports_from l.asked (wrapper_in l.types l.imports l.functions) l.first l.fn.exports)
    × (last_after (wrapper_in l.types l.imports l.functions) l.next (into_iter_items l.left) ≡ last_after (wrapper_in l.types l.imports l.functions) l.first l.fn.exports)
    × (l.next < 2 ^ 32)
    × (into_iter_len l.left ≡ length (into_iter_items l.left))

abbrev pub decreases-loop-next : goal.decreases-loop-next
decreases-loop-next l = into_iter_len l.left
