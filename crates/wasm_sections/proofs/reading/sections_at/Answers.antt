use Rattle.std.proofs.Common.{arith}
use Rattle.std.proofs.lemmas.Result.{err_from_is_err_and}
use Rattle.wasm_sections.proofs.Loop.{goes_on, ends, is_done}
use Rattle.wasm_sections.proofs.reading.sections_at.Goals as goal

pub returns-in_err-section : goal.returns-in_err-section
returns-in_err-section c =
    let p = err_from_is_err_and c.from_residual-in_err-section.result c.from_residual-in_err-section.ensures.1 in
    rw (p.1, p.2) (ends c.in_err-section.field-0.0 c.loop-rest.sections c.loop-rest.last c.args.end c.loop-rest.rest.now _ (omega arith) c.in_err-section.ensures.value c.loop-rest.invariant)

pub loop-rest-preserved : goal.loop-rest-preserved
loop-rest-preserved c =
    rw (c.in_ok-push.ensures.ok, c.max-last.ensures, c.rank_of.ensures) (goes_on c.loop-rest.sections c.loop-rest.last c.args.end c.loop-rest.rest.now c.in_ok-section.section c.in_ok-section.after.now _ c.in_ok-section.ensures.value c.loop-rest.invariant)

pub returns : goal.returns
returns c = is_done c.loop-rest.sections c.loop-rest.last c.args.end c.loop-rest.rest.now _ (omega arith) c.loop-rest.invariant
