use Rattle.std.proofs.Common.{◌-◌, arith}
use Rattle.run_model.proofs.ends.ends_of.Goals as goal
use Rattle.run_model.proofs.Table.{gone_further}

pub loop-at-preserved : goal.loop-at-preserved
loop-at-preserved c = record {
  gone = gone_further c.args.code.now (c.loop-at.at - 1) c.loop-at.at c.index-code-at.result c.mark_of.result c.in_ok-here.here c.loop-at.table c.push.new.self c.loop-at.blocks.ends c.pass.new.self.ends c.loop-at.blocks.others c.pass.new.self.others (omega arith) (omega arith) c.index-code-at.is c.mark_of.ensures c.loop-at.invariant.gone c.in_ok-here.ensures.here c.in_ok-here.ensures.ended c.in_ok-here.ensures.parted c.in_ok-push.ensures.ok;
  within = omega arith;
}
