use Rattle.std.proofs.Common.{arith}
use Rattle.std.proofs.lemmas.Result.{err_from_is_err_and}
use Rattle.wasm_instr.proofs.Loop.{run_fits, runs_go_on, runs_end, runs_done}
use Rattle.body_check.proofs.locals.runs_at.Goals as goal

pub returns-in_err-run : goal.returns-in_err-run
returns-in_err-run c =
    let p = err_from_is_err_and c.from_residual.result c.from_residual.ensures.1 in
    rw (p.1, p.2) (runs_end c.in_err-run.field-0.0 c.loop.runs c.args.count c.loop.counter c.loop.before c.args.end c.loop.rest.now _ c.loop-test.true c.in_err-run.ensures c.loop.invariant)

pub overflow_add-before : goal.overflow_add-before
overflow_add-before c = omega (arith, run_fits c.loop.before c.args.end c.loop.rest.now c.in_ok-run.run' c.in_ok-run.after.now c.in_ok-run.ensures)

pub loop-preserved : goal.loop-preserved
loop-preserved c =
    rw c.in_ok-push.ensures.ok (runs_go_on c.loop.runs c.args.count c.loop.counter c.loop.before c.args.end c.loop.rest.now c.in_ok-run.run' c.in_ok-run.after.now _ c.loop-test.true c.in_ok-run.ensures c.loop.invariant)

pub returns : goal.returns
returns c = runs_done c.loop.runs c.args.count c.loop.counter c.loop.before c.args.end c.loop.rest.now _ c.loop-test.false c.loop.invariant
