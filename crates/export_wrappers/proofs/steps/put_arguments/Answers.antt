use Rattle.export_wrappers.proofs.Putting.{argument_put}
use Rattle.export_wrappers.proofs.steps.put_arguments.Goals as goal

pub loop-local-preserved : goal.loop-local-preserved
loop-local-preserved c = argument_put c.loop-local.local c.args.count c.loop-local.to c.put_argument.new.to _ c.loop-local-test.true c.in_ok-put_argument.ensures.bytes c.loop-local.invariant
