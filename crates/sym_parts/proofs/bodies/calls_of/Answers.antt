use Rattle.sym_parts.specs.Sought.{known}
use Rattle.sym_parts.specs.Code.{call_named}
use Rattle.sym_parts.proofs.Gives.{some_more}
use Rattle.sym_parts.proofs.bodies.calls_of.Goals as goal

pub loop-named-preserved : goal.loop-named-preserved
loop-named-preserved c =
    some_more (call_named (known c.args.k)) c.args.row.now c.loop-named.named-index _ c.loop-named-test.true c.loop-named.ops c.add_call.new.ops _ c.loop-named.invariant c.in_ok-add_call.ensures
