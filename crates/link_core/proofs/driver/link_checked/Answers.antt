use Rattle.std.proofs.Common.{◌∙◌, ℕ, List, Err, ap, length, subst, sym}
use Rattle.std.proofs.lemmas.Result.{err_from_is_err_and}
use Rattle.link_output.specs.link_program.Answers.{Stops}
use Rattle.valid_shared_links.specs.valid_links.output_check.Check.{invalid_fault, IsValidOutput}
use Rattle.called_variants.specs.Called.{calls_told_of}
use Rattle.link_tails.specs.Tails.{whole_tail}
use Rattle.link_core.proofs.Checking.{not_linked, not_valid, passes_check, valid_whole}
use Rattle.link_core.proofs.Listing.{beside_all, tells_all, tells_by}
use Rattle.link_core.proofs.Tails.{whole_is_short}
use Rattle.link_core.proofs.driver.link_checked.Goals as goal

pub returns-in_err-whole-clause-exact : goal.returns-in_err-whole-clause-exact
returns-in_err-whole-clause-exact g c =
    let p = err_from_is_err_and c.from_residual.result c.from_residual.ensures.1 in
    rw (p.1) (not_linked c.args.plan.now c.args.files.now c.in_err-whole.field-0.0 p.0 p.2 c.in_err-whole.ensures.exact)

pub returns-in_err-whole-clause-told : goal.returns-in_err-whole-clause-told
returns-in_err-whole-clause-told g c = λ none.
    let p = err_from_is_err_and c.from_residual.result c.from_residual.ensures.1 in
    rw (p.1) (tells_by c.in_err-whole.field-0.0 p.0 c.link_files.new.told (calls_told_of c.args.plan.now c.args.files.now) p.2 (c.in_err-whole.ensures.told none))

pub returns-in_err-check-clause-exact : goal.returns-in_err-check-clause-exact
returns-in_err-check-clause-exact g c =
    let p = err_from_is_err_and c.from_residual-in_err-check.result c.from_residual-in_err-check.ensures.1 in
    rw (p.1)
    (not_valid c.args.plan.now c.args.files.now c.in_ok-whole.whole.bytes c.in_err-check.field-0.0 p.0 p.2 c.in_ok-whole.ensures.exact
    (subst (λ (bs : List ℕ). Stops c.in_err-check.field-0.0 (invalid_fault c.args.plan.now bs)) c.as_slice.ensures c.in_err-check.ensures.exact))

pub returns-in_err-check-clause-told : goal.returns-in_err-check-clause-told
returns-in_err-check-clause-told g c = λ none.
    let p = err_from_is_err_and c.from_residual-in_err-check.result c.from_residual-in_err-check.ensures.1 in
    rw (p.1) (beside_all p.0 c.link_files.new.told (calls_told_of c.args.plan.now c.args.files.now) (c.in_ok-whole.ensures.told none))

pub returns-clause-exact : goal.returns-clause-exact
returns-clause-exact g c =
    let bytes = c.in_ok-whole.whole.bytes in
    passes_check c.args.plan.now c.args.files.now bytes c.with_tail-answer.result c.in_ok-whole.ensures.exact (ap (invalid_fault c.args.plan.now) (sym c.as_slice.ensures) ∙ c.in_ok-check.ensures.exact)
    (c.with_tail-answer.ensures (whole_tail c.args.plan.now c.args.files.now (length bytes)) c.in_ok-whole.ensures.tail)

pub returns-clause-checked : goal.returns-clause-checked
returns-clause-checked g c = λ asked.
    let bytes = c.in_ok-whole.whole.bytes in
    valid_whole c.args.plan.now c.args.files.now c.valid_stays.ensures bytes c.with_tail-answer.result (subst IsValidOutput c.as_slice.ensures (c.in_ok-check.ensures.valid asked))
    (c.with_tail-answer.ensures (whole_tail c.args.plan.now c.args.files.now (length bytes)) c.in_ok-whole.ensures.tail)

pub returns-clause-short : goal.returns-clause-short
returns-clause-short g c =
    let bytes = c.in_ok-whole.whole.bytes in
    whole_is_short c.args.plan.now c.args.files.now bytes c.in_ok-whole.ensures.exact c.in_ok-whole.ensures.short c.with_tail-answer.result
    (c.with_tail-answer.ensures (whole_tail c.args.plan.now c.args.files.now (length bytes)) c.in_ok-whole.ensures.tail)

pub returns-clause-told : goal.returns-clause-told
returns-clause-told g c = λ none. tells_all c.with_tail-answer.result c.link_files.new.told (calls_told_of c.args.plan.now c.args.files.now) (c.in_ok-whole.ensures.told none)
