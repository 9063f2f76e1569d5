use Rattle.std.proofs.Common.{false}
use Rattle.std.proofs.lemmas.Result.{err_from_is_err_and}
use Rattle.wasm_instr.specs.wasm_grammar.Reading.{many_at}
use Rattle.wasm_instr.proofs.wasm_grammar_lemmas.Loop.{goes_on, ends, is_done}
use Rattle.wasm_module.specs.PartReading.{element_at}
use Rattle.object_parts.proofs.elements.many_elements.Goals as goal

pub returns-in_err-element : goal.returns-in_err-element
returns-in_err-element c =
    let p = err_from_is_err_and c.from_residual.result c.from_residual.ensures.1 in
    rw (p.1, p.2) (ends (element_at false) c.in_err-element.field-0.0 c.loop.elements c.args.count c.loop.counter c.args.end c.loop.rest.now (many_at (element_at false) c.args.count c.args.end c.args.bytes.now) c.loop-test.true c.in_err-element.ensures c.loop.invariant)

pub loop-preserved : goal.loop-preserved
loop-preserved c =
    rw c.in_ok-push.ensures.ok (goes_on (element_at false) c.loop.elements c.args.count c.loop.counter c.args.end c.loop.rest.now c.in_ok-element.element c.in_ok-element.after.now (many_at (element_at false) c.args.count c.args.end c.args.bytes.now) c.loop-test.true c.in_ok-element.ensures c.loop.invariant)

pub returns : goal.returns
returns c = is_done (element_at false) c.loop.elements c.args.count c.loop.counter c.args.end c.loop.rest.now (many_at (element_at false) c.args.count c.args.end c.args.bytes.now) c.loop-test.false c.loop.invariant
