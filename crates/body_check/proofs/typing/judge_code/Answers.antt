use Rattle.std.proofs.Common.{◌≡◌, ◌<◌, length, Some, None, ◌∙◌, sym, ap, arith, rules}
use Rattle.wasm_instr.specs.Skimming.{outline_of, outline_step}
use Rattle.wasm_instr.proofs.Loop.{shorter}
use Rattle.valid_bodies.specs.Shapes.{shape}
use Rattle.valid_bodies.specs.Steps.{step_on}
use Rattle.body_check.specs.Passing.{Passes, IsUnfit}
use Rattle.body_check.proofs.Judges.{is_unread, goes_on, is_misplaced, is_untyped, is_left, told_as}
use Rattle.body_check.proofs.Doing.{from_there, told_unfit}
use Rattle.body_check.proofs.typing.judge_code.Goals as goal

pub returns-then-len-eq0 : goal.returns-then-len-eq0
returns-then-len-eq0 c =
    told_as c.unfit.result _ _
    (is_left c.args.context.now c.args.kind.now c.args.locals.now c.args.end c.loop-alloc.opens c.loop-alloc.rest.now c.loop-alloc.blocks _
    (omega (arith, c.if-len-eq0.true, c.len.ensures)) (search rules) c.loop-alloc.invariant) c.unfit.ensures

-- the pass came to no typing
pub returns-in_default : goal.returns-in_default
returns-in_default c =
    let l = c.loop-alloc in
    let some : 0 < length l.opens = omega (arith, c.if-len-eq0.false, c.len.ensures) in
    let never : IsUnfit c.args.context.now c.args.kind.now c.args.locals.now c.args.end l.blocks l.rest.now = search rules in
    told_as c.unfit-in_default.result _ _
    (told_unfit c.args.context.now c.args.kind.now c.args.locals.now c.args.end l.blocks l.rest.now l.opens _ never some l.invariant) c.unfit-in_default.ensures

pub returns-in-Err-Stopped : goal.returns-in-Err-Stopped
returns-in-Err-Stopped c =
    let l = c.loop-alloc in
    let some : 0 < length l.opens = omega (arith, c.if-len-eq0.false, c.len.ensures) in
    let fs = c.types_plainly.new.blocks in
    let passes : Passes c.args.context.now c.args.kind.now c.args.locals.now c.args.end l.blocks l.rest.now fs c.in-Some.there.now = search rules in
    is_unread c.args.context.now c.args.kind.now c.args.locals.now c.args.end l.opens c.in-Some.there.now c.in-Err-Stopped.field-0 c.in-Err-Stopped.field-0-0 fs _
    some c.in-Err-Stopped.field-0-is c.in-Err-Stopped.ensures
    (from_there c.args.context.now c.args.kind.now c.args.locals.now c.args.end l.blocks l.rest.now fs c.in-Some.there.now l.opens _ passes some l.invariant)

pub returns-in_default-2 : goal.returns-in_default-2
returns-in_default-2 c =
    let l = c.loop-alloc in
    let some : 0 < length l.opens = omega (arith, c.if-len-eq0.false, c.len.ensures) in
    let fs = c.types_plainly.new.blocks in
    let there = c.in-Some.there.now in
    let passes : Passes c.args.context.now c.args.kind.now c.args.locals.now c.args.end l.blocks l.rest.now fs there = search rules in
    let none : step_on fs (shape c.args.context.now c.args.kind.now c.args.locals.now c.in-Ok.instr) ≡ None = search rules in
    told_as c.unfit-in_default-2.result _ _
    (is_untyped c.args.context.now c.args.kind.now c.args.locals.now c.args.end l.opens there c.in-Ok.instr c.in-Ok.field-0-1.now c.in-Ok.after.now fs _
    some c.in-Ok.ensures (from_there c.args.context.now c.args.kind.now c.args.locals.now c.args.end l.blocks l.rest.now fs there l.opens _ passes some l.invariant) none) c.unfit-in_default-2.ensures

pub returns-then-not-branch : goal.returns-then-not-branch
returns-then-not-branch c =
    let l = c.loop-alloc in
    let some : 0 < length l.opens = omega (arith, c.if-len-eq0.false, c.len.ensures) in
    let fs = c.types_plainly.new.blocks in
    let there = c.in-Some.there.now in
    let passes : Passes c.args.context.now c.args.kind.now c.args.locals.now c.args.end l.blocks l.rest.now fs there = search rules in
    let outline : c.in-Some-2.outline ≡ outline_of c.in-Ok.instr = search rules in
    let none : outline_step l.opens c.in-Some-2.outline ≡ None = search rules in
    is_misplaced c.args.context.now c.args.kind.now c.args.locals.now c.args.end l.opens there c.in-Ok.instr c.in-Ok.field-0-1.now c.in-Ok.after.now fs _
    some c.in-Ok.ensures (from_there c.args.context.now c.args.kind.now c.args.locals.now c.args.end l.blocks l.rest.now fs there l.opens _ passes some l.invariant) (ap (outline_step l.opens) (sym outline) ∙ none)

pub loop-alloc-smaller : goal.loop-alloc-smaller
loop-alloc-smaller c =
    let l = c.loop-alloc in
    let there = c.in-Some.there.now in
    let passes : Passes c.args.context.now c.args.kind.now c.args.locals.now c.args.end l.blocks l.rest.now c.types_plainly.new.blocks there = search rules in
    let less = shorter c.args.end there c.in-Ok.instr c.in-Ok.field-0-1.now c.in-Ok.after.now c.in-Ok.ensures in
    omega (arith, less, passes.less)

pub loop-alloc-preserved : goal.loop-alloc-preserved
loop-alloc-preserved c =
    let l = c.loop-alloc in
    let some : 0 < length l.opens = omega (arith, c.if-len-eq0.false, c.len.ensures) in
    let fs = c.types_plainly.new.blocks in
    let there = c.in-Some.there.now in
    let passes : Passes c.args.context.now c.args.kind.now c.args.locals.now c.args.end l.blocks l.rest.now fs there = search rules in
    let went : step_on fs (shape c.args.context.now c.args.kind.now c.args.locals.now c.in-Ok.instr) ≡ Some c.types.new.blocks = search rules in
    let outline : c.in-Some-2.outline ≡ outline_of c.in-Ok.instr = search rules in
    let turned : outline_step l.opens c.in-Some-2.outline ≡ Some c.turns.new.opens = search rules in
    goes_on c.args.context.now c.args.kind.now c.args.locals.now c.args.end l.opens there c.in-Ok.instr c.in-Ok.field-0-1.now c.in-Ok.after.now fs _
    some c.in-Ok.ensures (from_there c.args.context.now c.args.kind.now c.args.locals.now c.args.end l.blocks l.rest.now fs there l.opens _ passes some l.invariant) c.types.new.blocks c.turns.new.opens went (ap (outline_step l.opens) (sym outline) ∙ turned)
