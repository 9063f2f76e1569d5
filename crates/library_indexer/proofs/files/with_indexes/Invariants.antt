use Rattle.std.proofs.Common.{◌≡◌, ◌++◌}
use Rattle.std.specs.Prelude.{map}
use Rattle.std.specs.Vec.Iter.{into_iter_items, into_iter_len}
use Rattle.library_indexer.specs.Indexed.{with_index}
use Rattle.library_indexer.proofs.files.with_indexes.Given as goal

abbrev pub invariant-loop-bytes : goal.invariant-loop-bytes
invariant-loop-bytes l = l.all ++ map with_index (into_iter_items l.left) ≡ map with_index l.fn.files

abbrev pub decreases-loop-bytes : goal.decreases-loop-bytes
decreases-loop-bytes l = into_iter_len l.left
