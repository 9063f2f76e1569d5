use Rattle.std.proofs.Common.{◌≡◌, ◌++◌, map, Some}
use Rattle.std.specs.Vec.Iter.{into_iter_items, into_iter_len}
use Rattle.sym_parts.specs.Sought.{known}
use Rattle.sym_parts.specs.Ops.{op_seen}
use Rattle.sym_parts.proofs.ops.ops_of.Given as goal

abbrev pub invariant-loop-x : goal.invariant-loop-x
invariant-loop-x l = map Some l.ops ++ map (op_seen (known l.k) l.row) (into_iter_items l.left) ≡ map (op_seen (known l.k) l.row) l.fn.code

abbrev pub decreases-loop-x : goal.decreases-loop-x
decreases-loop-x l = into_iter_len l.left
