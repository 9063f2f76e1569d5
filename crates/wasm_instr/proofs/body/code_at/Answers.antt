use Rattle.std.proofs.Common.{◌≡◌, ◌-◌, length, Ok, sym, ◌∙◌, arith}
use Rattle.std.proofs.lemmas.Result.{err_from_is_err_and}
use Rattle.wasm_instr.specs.Bodies.{step_of, stepped}
use Rattle.wasm_instr.proofs.Loop.{shorter, goes_on, ends, ends_there, is_done, ended_empty, ended_more}
use Rattle.wasm_instr.proofs.body.code_at.Goals as goal

pub returns-in_err-instr : goal.returns-in_err-instr
returns-in_err-instr c =
    let p = err_from_is_err_and c.from_residual-in_err-instr.result c.from_residual-in_err-instr.ensures.1 in
    rw (p.1, p.2) (ends c.in_err-instr.field-0.0 c.args.end c.loop-alloc.code c.loop-alloc.opens c.loop-alloc.rest.now _ (omega (arith, c.loop-alloc-test.true, c.len.ensures)) c.in_err-instr.ensures c.loop-alloc.invariant)

pub returns-in_err-step : goal.returns-in_err-step
returns-in_err-step c =
    let p = err_from_is_err_and c.from_residual-in_err-step.result c.from_residual-in_err-step.ensures.1 in
    rw (p.1, p.2) (ends_there c.in_err-step.field-0.0 c.args.end c.loop-alloc.code c.loop-alloc.opens c.loop-alloc.rest.now c.in_ok-instr.instr c.in_ok-instr.last.now c.in_ok-instr.after.now _
    (omega (arith, c.loop-alloc-test.true, c.len.ensures)) c.in_ok-instr.ensures (rw (sym c.place-at.ensures) c.in_err-step.ensures) c.loop-alloc.invariant)

pub loop-alloc-smaller : goal.loop-alloc-smaller
loop-alloc-smaller c = shorter c.args.end c.loop-alloc.rest.now c.in_ok-instr.instr c.in_ok-instr.last.now c.in_ok-instr.after.now c.in_ok-instr.ensures

pub loop-alloc-preserved : goal.loop-alloc-preserved
loop-alloc-preserved c =
    let s : stepped (c.args.end - length c.loop-alloc.rest.now) (step_of c.loop-alloc.opens c.in_ok-instr.instr) ≡ Ok c.step.new.opens = rw (sym c.place-at.ensures) c.in_ok-step.ensures in
    rw (c.in_ok-push-2.ensures.ok, c.place-at.ensures, c.place-mid.ensures, c.place-until.ensures)
    (goes_on c.args.end c.loop-alloc.code c.loop-alloc.opens c.loop-alloc.rest.now c.in_ok-instr.instr c.in_ok-instr.last.now c.in_ok-instr.after.now c.step.new.opens _
    (omega (arith, c.loop-alloc-test.true, c.len.ensures)) c.in_ok-instr.ensures s c.loop-alloc.invariant)

pub returns-in-empty : goal.returns-in-empty
returns-in-empty c =
    is_done c.args.end c.loop-alloc.code c.loop-alloc.opens c.loop-alloc.rest.now _ (omega (arith, c.loop-alloc-test.false, c.len.ensures)) c.loop-alloc.invariant
    ∙ ended_empty c.args.end c.loop-alloc.code c.loop-alloc.rest.now c.in-empty.len_below

pub returns-in_default : goal.returns-in_default
returns-in_default c =
    rw c.place.ensures
    (is_done c.args.end c.loop-alloc.code c.loop-alloc.opens c.loop-alloc.rest.now _ (omega (arith, c.loop-alloc-test.false, c.len.ensures)) c.loop-alloc.invariant
    ∙ ended_more c.args.end c.loop-alloc.code c.loop-alloc.rest.now c.in_default.len_at_least)
