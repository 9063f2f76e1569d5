use Rattle.std.proofs.Common.{arith}
use Rattle.body_check.proofs.Judges.{is_typed, goes_past, wants_more, told_as}
use Rattle.body_check.proofs.typing.closed.Goals as goal

pub returns-then-len-gt0 : goal.returns-then-len-gt0
returns-then-len-gt0 c =
    told_as c.unfit.result _ _ (wants_more c.args._context.now c.args._kind.now c.args._locals.now c.args.end c.args.opens c.args.bytes.now (omega (arith, c.if-len-gt0.true, c.len.ensures))) c.unfit.ensures

pub returns-in-empty : goal.returns-in-empty
returns-in-empty c = is_typed c.args._context.now c.args._kind.now c.args._locals.now c.args.end c.args.opens c.args.bytes.now (omega (arith, c.if-len-gt0.false, c.len.ensures)) c.in-empty.len_below

pub returns : goal.returns
returns c = goes_past c.args._context.now c.args._kind.now c.args._locals.now c.args.end c.args.opens c.args.bytes.now (omega (arith, c.if-len-gt0.false, c.len.ensures)) c.in_default.len_at_least
