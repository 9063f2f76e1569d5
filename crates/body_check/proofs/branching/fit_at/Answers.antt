use Rattle.body_check.proofs.Labels.{is_no_number, fits_not, fits_so, no_more}
use Rattle.std.proofs.Common.{sym}
use Rattle.body_check.proofs.branching.fit_at.Goals as goal

pub returns-in_default : goal.returns-in_default
returns-in_default c = is_no_number c.args.blocks.now c.args.arity c.args.count c.loop.counter c.args.end c.loop.rest.now c.in_default.field-0 _ c.loop-test.true c.in_default.ensures c.loop.invariant

pub returns-then-not-label_fits : goal.returns-then-not-label_fits
returns-then-not-label_fits c =
    fits_not c.args.blocks.now c.args.arity c.args.count c.loop.counter c.args.end c.loop.rest.now c.in-Ok.label c.in-Ok.after.now _ c.loop-test.true c.in-Ok.ensures (sym c.if-not-label_fits.ensures) c.loop.invariant

pub loop-preserved : goal.loop-preserved
loop-preserved c =
    fits_so c.args.blocks.now c.args.arity c.args.count c.loop.counter c.args.end c.loop.rest.now c.in-Ok.label c.in-Ok.after.now _ c.loop-test.true c.in-Ok.ensures (sym c.if-not-label_fits.ensures) c.loop.invariant

pub returns : goal.returns
returns c = no_more c.args.blocks.now c.args.arity c.args.count c.loop.counter c.args.end c.loop.rest.now _ c.loop-test.false c.loop.invariant
