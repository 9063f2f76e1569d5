use Rattle.std.proofs.Common.{length, sym, ◌∙◌}
use Rattle.std.proofs.lemmas.Result.{err_from_is_err_and}
use Rattle.linking_section.specs.LinkingLaws.{linking_found, linking_again}
use Rattle.linking_section.proofs.Told.{memory_alone}
use Rattle.linking_section.proofs.reading.read.Goals as goal

pub returns-in_err-linking_at-clause-only : goal.returns-in_err-linking_at-clause-only
returns-in_err-linking_at-clause-only c = λ l spelled.
    let p = err_from_is_err_and c.from_residual.result c.from_residual.ensures.1 in
    rw (p.1, p.2) (memory_alone c.in_err-linking_at.field-0.0 (length c.args.payload.now) c.args.payload.now c.in_err-linking_at.ensures l spelled)

pub returns-clause-found : goal.returns-clause-found
returns-clause-found c = linking_found (length c.args.payload.now) c.args.payload.now c.in_ok-linking_at.field-0 c.in_ok-linking_at.ensures

pub returns-clause-only : goal.returns-clause-only
returns-clause-only c = λ l spelled. sym (linking_again (length c.args.payload.now) c.args.payload.now l spelled) ∙ c.in_ok-linking_at.ensures
