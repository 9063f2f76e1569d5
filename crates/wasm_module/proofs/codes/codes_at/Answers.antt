use Rattle.std.proofs.lemmas.Result.{err_from_is_err_and}
use Rattle.wasm_instr.specs.wasm_grammar.Reading.{many_at}
use Rattle.wasm_instr.proofs.wasm_grammar_lemmas.Loop.{goes_on, ends, is_done}
use Rattle.wasm_module.specs.ModuleReading.{code_at}
use Rattle.wasm_module.proofs.codes.codes_at.Goals as goal

pub returns-in_err-body : goal.returns-in_err-body
returns-in_err-body c =
    let p = err_from_is_err_and c.from_residual.result c.from_residual.ensures.1 in
    rw (p.1, p.2) (ends code_at c.in_err-body.field-0.0 c.loop.bodies c.args.count c.loop.counter c.args.end c.loop.rest.now (many_at code_at c.args.count c.args.end c.args.bytes.now) c.loop-test.true c.in_err-body.ensures c.loop.invariant)

pub loop-preserved : goal.loop-preserved
loop-preserved c =
    rw c.in_ok-push.ensures.ok (goes_on code_at c.loop.bodies c.args.count c.loop.counter c.args.end c.loop.rest.now c.in_ok-body.body c.in_ok-body.after.now (many_at code_at c.args.count c.args.end c.args.bytes.now) c.loop-test.true c.in_ok-body.ensures c.loop.invariant)

pub returns : goal.returns
returns c = is_done code_at c.loop.bodies c.args.count c.loop.counter c.args.end c.loop.rest.now (many_at code_at c.args.count c.args.end c.args.bytes.now) c.loop-test.false c.loop.invariant
