use Rattle.std.proofs.Common.{◌+◌, ◌-◌, map}
use Rattle.std.proofs.lemmas.Result.{err_from_is_err_and}
use Rattle.wasm_module.specs.wasm_instr.wasm_grammar.declared.fault.ReadFault.TheVariants.{Stopped}
use Rattle.wasm_module.specs.wasm_instr.wasm_grammar.Reading.{many_at, part_at}
use Rattle.wasm_module.proofs.wasm_instr_lemmas.wasm_grammar_lemmas.Loop.{goes_on, ends, is_done}
use Rattle.module_front.proofs.Putting.{one_more}
use Rattle.module_front.proofs.parts.parts_at.Goals as goal

pub returns-in_err-part : goal.returns-in_err-part
returns-in_err-part c =
    let p = err_from_is_err_and c.from_residual.result c.from_residual.ensures.1 in
    rw (p.1, p.2) (ends part_at (Stopped c.in_err-part.field-0.0) (map (λ p. p.now) c.loop.parts) c.args.count c.loop.counter c.args.end c.loop.rest.now (many_at part_at c.args.count c.args.end c.args.bytes.now) c.loop-test.true c.in_err-part.ensures c.loop.invariant)

pub loop-preserved : goal.loop-preserved
loop-preserved c =
    rw c.in_ok-push.ensures.ok (one_more (λ p. p.now) c.loop.parts c.in_ok-part.part (many_at part_at (c.args.count - (c.loop.counter + 1)) c.args.end c.in_ok-part.after.now) (many_at part_at c.args.count c.args.end c.args.bytes.now)
    (goes_on part_at (map (λ p. p.now) c.loop.parts) c.args.count c.loop.counter c.args.end c.loop.rest.now c.in_ok-part.part.now c.in_ok-part.after.now (many_at part_at c.args.count c.args.end c.args.bytes.now) c.loop-test.true c.in_ok-part.ensures c.loop.invariant))

pub returns : goal.returns
returns c = is_done part_at (map (λ p. p.now) c.loop.parts) c.args.count c.loop.counter c.args.end c.loop.rest.now (many_at part_at c.args.count c.args.end c.args.bytes.now) c.loop-test.false c.loop.invariant
