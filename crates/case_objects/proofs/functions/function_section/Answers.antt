use Rattle.std.proofs.Common.{length, sym, ◌∙◌}
use Rattle.std.specs.Prelude.{option_map}
use Rattle.std.proofs.lemmas.Result.{err_from_is_err_and}
use Rattle.case_objects.proofs.Walk.{goes_on, ends, stops, is_done}
use Rattle.case_objects.proofs.functions.function_section.Goals as goal

pub returns-then-is_empty : goal.returns-then-is_empty
returns-then-is_empty c =
    stops 3 (length c.args.bytes.now) c.loop.counter c.args.end (option_map (λ b. b.now) c.loop.found) c.loop.rest.now _ (sym c.is_empty.ensures ∙ c.if-is_empty.true) c.loop.invariant

pub returns-in_err-id : goal.returns-in_err-id
returns-in_err-id c =
    let p = err_from_is_err_and c.from_residual.result c.from_residual.ensures.1 in
    rw (p.1, p.2) (ends 3 (length c.args.bytes.now) c.loop.counter c.args.end (option_map (λ b. b.now) c.loop.found) c.loop.rest.now _ c.in_err-id.field-0.0 c.loop-test.true (sym c.is_empty.ensures ∙ c.if-is_empty.false) c.in_err-id.ensures c.loop.invariant)

pub loop-preserved : goal.loop-preserved
loop-preserved c =
    goes_on 3 (length c.args.bytes.now) c.loop.counter c.args.end (option_map (λ b. b.now) c.loop.found) c.loop.rest.now _ _ c.in_ok-id.after.now _ c.loop-test.true (sym c.is_empty.ensures ∙ c.if-is_empty.false) c.in_ok-id.ensures c.first_found-found.ensures c.loop.invariant

pub returns : goal.returns
returns c = is_done 3 (length c.args.bytes.now) c.loop.counter c.args.end (option_map (λ b. b.now) c.loop.found) c.loop.rest.now _ c.loop-test.false c.loop.invariant
