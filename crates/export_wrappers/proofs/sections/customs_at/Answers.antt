use Rattle.std.proofs.Common.{length, sym, ◌∙◌}
use Rattle.std.proofs.lemmas.Result.{err_from_is_err_and}
use Rattle.wasm_module.proofs.Customs.{goes_on, ends, stops, is_done}
use Rattle.export_wrappers.proofs.sections.customs_at.Goals as goal

pub returns-then-not-begins : goal.returns-then-not-begins
returns-then-not-begins c = stops (length c.args.bytes.now) c.loop.counter c.args.end c.loop.rest.now _ c.loop-test.true (sym c.begins.ensures ∙ c.if-not-begins.true) c.loop.invariant

pub returns-in_err-rest : goal.returns-in_err-rest
returns-in_err-rest c =
    let p = err_from_is_err_and c.from_residual.result c.from_residual.ensures.1 in
    rw (p.1, p.2) (ends (length c.args.bytes.now) c.loop.counter c.args.end c.loop.rest.now c.in_err-rest.field-0.0 _ c.loop-test.true (sym c.begins.ensures ∙ c.if-not-begins.false) c.in_err-rest.ensures c.loop.invariant)

pub loop-preserved : goal.loop-preserved
loop-preserved c = goes_on (length c.args.bytes.now) c.loop.counter c.args.end c.loop.rest.now c.in_ok-rest.rest.now _ c.loop-test.true (sym c.begins.ensures ∙ c.if-not-begins.false) c.in_ok-rest.ensures c.loop.invariant

pub returns : goal.returns
returns c = is_done (length c.args.bytes.now) c.loop.counter c.args.end c.loop.rest.now _ c.loop-test.false c.loop.invariant
