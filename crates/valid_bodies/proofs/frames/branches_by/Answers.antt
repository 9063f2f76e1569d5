use Rattle.std.proofs.Common.{sym}
use Rattle.valid_bodies.proofs.Stepping.{by_table}
use Rattle.valid_bodies.proofs.frames.branches_by.Goals as goal

pub returns : goal.returns
returns c =
    let s = c.blocks-2.inside in
    by_table s.types s.inner s.around c.in-Some.block s.operands c.args.blocks.now c.blocks-2.view_is c.in-Some.is c.args.targets.now c.args.last c.takes_one.new.operands.own c.takes_one.new.operands.below c.clear.new.self c.dead.result
    c.if-not-takes_one.ensures.own (sym c.if-not-fit_with.ensures) c.takes_one.ensures.below c.clear.ensures c.dead.ensures
