use Rattle.std.proofs.Common.{◌≡◌, Result, Err, ◌∙◌, sym, ap}
use Rattle.std.specs.Prelude.{List}
use Rattle.std.proofs.lemmas.Result.{err_from_is_err_and}
use Rattle.body_windows.specs.declared.operand.Operand.{Operand}
use Rattle.body_windows.specs.declared.fault.Mismatch.{Mismatch}
use Rattle.body_windows.specs.declared.fault.Mismatch.TheVariants as mismatches
use Rattle.body_windows.specs.Fault.{window_fault, Tells}
use Rattle.body_windows.specs.Immediates.{immediates, end_of}
use Rattle.body_windows.proofs.Merge.{merge_said}
use Rattle.body_windows.proofs.Steps.{order_fits}
use Rattle.body_windows.proofs.reading.windows.Goals as goal

tells_fault : (e : Mismatch) (said : Result (List Operand) Mismatch) → said ≡ Err e → Tells (Err (window_fault e)) said
tells_fault (mismatches.Overlap place) said is = is
tells_fault (mismatches.OffImmediate place) said is = is
tells_fault (mismatches.BareIndex place) said is = is

pub offer_code-requires : goal.offer_code-requires
offer_code-requires c =
    let code = c.args.body.now.code in
    rw (c.as_slice.ensures, c.new-merger.ensures) (order_fits c.args.base 0 (end_of 0 code) (immediates code) c.requires.order c.requires.room)

pub returns-in_err-finish : goal.returns-in_err-finish
returns-in_err-finish c =
    let code = c.args.body.now.code in
    let p = err_from_is_err_and c.from_residual-in_err-finish.result c.from_residual-in_err-finish.ensures.1 in
    let said = merge_said c.args.base c.args.relocs.now (immediates code) (immediates c.as_slice.result.now) 0 (end_of 0 code) c.new-merger.result c.offer_code.new.merger c.least_overlap.result
    c.requires.order c.new-merger.ensures (ap immediates c.as_slice.ensures) c.in_ok-offer_code.ensures c.least_overlap.ensures in
    rw (p.1, p.2) (tells_fault c.in_err-finish.field-0.0 _ (said ∙ sym c.finish.ensures ∙ c.in_err-finish.was))

pub returns : goal.returns
returns c =
    let code = c.args.body.now.code in
    let said = merge_said c.args.base c.args.relocs.now (immediates code) (immediates c.as_slice.result.now) 0 (end_of 0 code) c.new-merger.result c.offer_code.new.merger c.least_overlap.result
    c.requires.order c.new-merger.ensures (ap immediates c.as_slice.ensures) c.in_ok-offer_code.ensures c.least_overlap.ensures in
    said ∙ sym c.finish.ensures ∙ c.in_ok-finish.was
