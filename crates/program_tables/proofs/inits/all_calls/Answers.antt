use Rattle.program_tables.proofs.Turning.{calls_more}
use Rattle.program_tables.proofs.inits.all_calls.Goals as goal

pub loop-object-preserved : goal.loop-object-preserved
loop-object-preserved c =
    calls_more c.args.lookups c.loop-object.object c.loop-object.calls c.add_calls.new.calls c.loop-object.invariant c.in_ok-add_calls.ensures
