use Rattle.valid_bodies.proofs.Opening.{opens_not, by_open}
use Rattle.valid_bodies.proofs.frames.opens.Goals as goal

pub returns-then-not-takes_asked : goal.returns-then-not-takes_asked
returns-then-not-takes_asked c =
    let s = c.blocks-2.inside in
    opens_not s.types s.inner s.around c.in-Some.block s.operands c.args.blocks.now c.blocks-2.view_is c.in-Some.is c.args.opener (record { params = c.args.params.now; results = c.args.results.now }) c.if-not-takes_asked.ensures.own

pub returns : goal.returns
returns c =
    let s = c.blocks-2.inside in
    by_open s.types s.inner s.around c.in-Some.block s.operands c.args.blocks.now c.blocks-2.view_is c.in-Some.is c.args.opener (record { params = c.args.params.now; results = c.args.results.now })
    c.takes_asked.new.operands c.in_ok-inner.inner c.enter.new.types c.enter.new.around c.enter.new.operands c.if-not-takes_asked.ensures.own c.takes_asked.ensures.below c.blocks-2.invariant c.in_ok-inner.ensures
