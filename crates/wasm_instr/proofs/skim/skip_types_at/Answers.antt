use Rattle.std.proofs.lemmas.Result.{err_from_is_err_and}
use Rattle.wasm_types.specs.Types.{val_type_at}
use Rattle.wasm_instr.proofs.Skip.{past_one, past_fault, past_all}
use Rattle.wasm_instr.proofs.skim.skip_types_at.Goals as goal

pub returns-in_err-after : goal.returns-in_err-after
returns-in_err-after c =
    let p = err_from_is_err_and c.from_residual.result c.from_residual.ensures.1 in
    rw (p.1, p.2) (past_fault val_type_at c.in_err-after.field-0.0 c.args.count c.loop.counter c.args.end c.loop.rest.now _ c.loop-test.true c.in_err-after.ensures c.loop.invariant)

pub loop-preserved : goal.loop-preserved
loop-preserved c = past_one val_type_at c.args.count c.loop.counter c.args.end c.loop.rest.now c.in_ok-after.field-0-0 c.in_ok-after.after.now _ c.loop-test.true c.in_ok-after.ensures c.loop.invariant

pub returns : goal.returns
returns c = past_all val_type_at c.args.count c.loop.counter c.args.end c.loop.rest.now _ c.loop-test.false c.loop.invariant
