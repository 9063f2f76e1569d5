use Rattle.link_keys.proofs.Joining.{either_empty, flag_next}
use Rattle.link_keys.proofs.marks.join_flags.Goals as goal

pub loop-at-init : goal.loop-at-init
loop-at-init c = either_empty c.args.flags.now

pub loop-at-preserved : goal.loop-at-preserved
loop-at-preserved c = flag_next c.args.flags.now c.args.more.now c.loop-at.flags c.flag_if.new.flags c.loop-at.at _ c.loop-at-test.true c.loop-at.invariant c.flag_if.ensures
