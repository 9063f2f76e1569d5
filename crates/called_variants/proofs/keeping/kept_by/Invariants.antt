use Rattle.std.proofs.Common.{◌≡◌, ◌++◌, filter}
use Rattle.std.specs.Vec.Iter.{into_iter_items, into_iter_len}
use Rattle.called_variants.specs.Called.{is_called}
use Rattle.called_variants.proofs.keeping.kept_by.Given as goal

abbrev pub ghost-keep : goal.ghost-keep
ghost-keep g a = g.p

abbrev pub invariant-loop-mismatch : goal.invariant-loop-mismatch
invariant-loop-mismatch g l = l.kept ++ filter (is_called g.p) (into_iter_items l.left) ≡ filter (is_called g.p) l.fn.told

abbrev pub decreases-loop-mismatch : goal.decreases-loop-mismatch
decreases-loop-mismatch g l = into_iter_len l.left
