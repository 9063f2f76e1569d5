use Rattle.std.proofs.Common.{ap, sym, ◌∙◌}
use Rattle.std.proofs.lemmas.Result.{err_from_is_err_and}
use Rattle.link_output.specs.link_program.link_rules.ModeOf.{mode_of}
use Rattle.link_output.specs.link_program.link_rules.Program.{program_of}
use Rattle.called_variants.specs.Called.{told_of}
use Rattle.link_core.proofs.Listing.{find_told, finds_by}
use Rattle.link_core.proofs.telling.find_telling.Goals as goal

pub returns-in_err-found-clause-found : goal.returns-in_err-found-clause-found
returns-in_err-found-clause-found g c =
    let p = err_from_is_err_and c.from_residual.result c.from_residual.ensures.1 in
    let mode = mode_of c.args.plan.now in
    let program = program_of mode c.args.plan.now g.origin.files g.origin.all c.args.objects.now in
    rw (p.1) (finds_by mode c.args.plan.now c.args.objects.now program c.in_err-found.field-0.0 p.0 p.2 c.in_err-found.ensures)

pub returns-in_err-found-clause-told : goal.returns-in_err-found-clause-told
returns-in_err-found-clause-told g c = λ none.
    let p = err_from_is_err_and c.from_residual.result c.from_residual.ensures.1 in
    let mode = mode_of c.args.plan.now in
    let program = program_of mode c.args.plan.now g.origin.files g.origin.all c.args.objects.now in
    rw (p.1) (find_told mode c.args.plan.now c.args.objects.now program c.in_err-found.field-0.0 p.0 c.args.told.now p.2 c.in_err-found.ensures none)

pub mismatches_in-requires : goal.mismatches_in-requires
mismatches_in-requires g c = c.in_ok-found.ensures.1

pub returns-clause-told : goal.returns-clause-told
returns-clause-told g c = λ none. c.in_ok-told.ensures ∙ sym (ap told_of c.in_ok-found.ensures.0)

pub returns-in_err-told-clause-found : goal.returns-in_err-told-clause-found
returns-in_err-told-clause-found g c =
    let p = err_from_is_err_and c.from_residual-in_err-told.result c.from_residual-in_err-told.ensures.1 in
    rw (p.1, p.2) tt

pub returns-in_err-told-clause-told : goal.returns-in_err-told-clause-told
returns-in_err-told-clause-told g c = λ none.
    let p = err_from_is_err_and c.from_residual-in_err-told.result c.from_residual-in_err-told.ensures.1 in
    rw (p.1, p.2) tt

pub returns-clause-found : goal.returns-clause-found
returns-clause-found g c = c.in_ok-found.ensures
