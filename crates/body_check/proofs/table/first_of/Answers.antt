use Rattle.std.proofs.Common.{arith}
use Rattle.body_check.proofs.Tables.{all_put}
use Rattle.body_check.proofs.table.first_of.Goals as goal

pub returns : goal.returns
returns c = all_put c.loop-at.first c.args.runs.now c.loop-at.at _ (omega (arith, c.loop-at-test.false)) c.loop-at.invariant
