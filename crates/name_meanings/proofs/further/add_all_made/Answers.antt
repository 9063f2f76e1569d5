use Rattle.std.proofs.Common.{arith}
use Rattle.name_meanings.proofs.further.add_all_made.Goals as goal
use Rattle.name_meanings.proofs.Besides.{made_step, made_whole}

pub loop-k-preserved : goal.loop-k-preserved
loop-k-preserved c =
    made_step c.loop-k.k c.args.imports.now c.loop-k.imports c.add_made.new.imports c.loop-k.numbers c.add_made.new.numbers (omega arith) c.in_ok-add_made.ensures c.loop-k.invariant

pub returns : goal.returns
returns c = made_whole c.loop-k.k c.args.imports.now c.loop-k.imports c.loop-k.numbers (omega arith) c.loop-k.invariant
