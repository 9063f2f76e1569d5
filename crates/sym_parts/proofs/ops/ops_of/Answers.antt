use Rattle.std.specs.Vec.Iter.{into_iter_items}
use Rattle.sym_parts.specs.Sought.{known}
use Rattle.sym_parts.specs.Ops.{op_seen}
use Rattle.sym_parts.proofs.Gives.{gives_next}
use Rattle.sym_parts.proofs.ops.ops_of.Goals as goal

pub loop-x-preserved : goal.loop-x-preserved
loop-x-preserved c =
    gives_next (op_seen (known c.args.k) c.args.row.now) c.in-Some.x (into_iter_items c.next.new.self) c.args.code (into_iter_items c.loop-x.left) c.loop-x.ops c.push.new.self c.in_ok-op.op
    c.loop-x.invariant c.in-Some.ensures.cases.0 c.in_ok-op.ensures c.in_ok-push.ensures.ok
