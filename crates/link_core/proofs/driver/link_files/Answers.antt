use Rattle.std.proofs.Common.{◌∙◌, Ok, Err, ap, subst, sym}
use Rattle.std.proofs.lemmas.Result.{err_from_is_err_and}
use Rattle.link_output.specs.link_program.link_rules.ModeOf.{mode_of}
use Rattle.link_output.specs.link_program.link_rules.LinkOf.{link_program}
use Rattle.link_output.specs.link_program.Loaded.{the_candidates}
use Rattle.link_tails.specs.Tails.{whole_tail}
use Rattle.link_core.specs.Loading.{Loading, program_in}
use Rattle.link_core.specs.Prepared.{output_of}
use Rattle.link_core.specs.Tails.{TellsTail}
use Rattle.link_core.proofs.Answering.{fails_by, load_failed, goes_on_loaded}
use Rattle.link_core.proofs.Listing.{load_told, loaded_told, tells_on}
use Rattle.link_core.proofs.Tails.{loaded_tail}
use Rattle.link_core.proofs.driver.link_files.Goals as goal

pub returns-in_err-inputs-clause-exact : goal.returns-in_err-inputs-clause-exact
returns-in_err-inputs-clause-exact g c =
    let p = err_from_is_err_and c.from_residual.result c.from_residual.ensures.1 in
    rw (p.1) (load_failed c.args.plan.now c.args.files.now c.in_err-inputs.field-0.0 p.0 p.2 c.in_err-inputs.ensures.exact)

pub returns-in_err-ready-clause-exact : goal.returns-in_err-ready-clause-exact
returns-in_err-ready-clause-exact g c =
    let p = err_from_is_err_and c.from_residual-in_err-ready.result c.from_residual-in_err-ready.ensures.1 in
    let all = the_candidates c.args.plan.now c.args.files.now in
    let l : Loading = record { origin = record { plan = c.args.plan.now; files = c.args.files.now; all = all }; objects = c.in_ok-inputs.inputs.loaded } in
    rw (p.1)
    (goes_on_loaded c.args.plan.now c.args.files.now all c.in_ok-inputs.inputs.loaded (Err p.0) c.in_ok-inputs.ensures.found.candidates c.in_ok-inputs.ensures.found.objects
    (fails_by (link_program (mode_of (program_in l).plan) (program_in l)) c.in_err-ready.field-0.0 p.0 p.2 c.in_err-ready.ensures.exact))

pub returns-in_err-bytes-clause-exact : goal.returns-in_err-bytes-clause-exact
returns-in_err-bytes-clause-exact g c =
    let p = err_from_is_err_and c.from_residual-in_err-bytes.result c.from_residual-in_err-bytes.ensures.1 in
    rw (p.1, p.2) tt

pub returns-clause-exact : goal.returns-clause-exact
returns-clause-exact g c =
    goes_on_loaded c.args.plan.now c.args.files.now (the_candidates c.args.plan.now c.args.files.now) c.in_ok-inputs.inputs.loaded (Ok (output_of c.args.files.now c.in_ok-ready.ready))
    c.in_ok-inputs.ensures.found.candidates c.in_ok-inputs.ensures.found.objects c.in_ok-ready.ensures.exact
    ∙ ap (λ bs. Ok bs) (sym c.in_ok-bytes.ensures.is)

pub returns-clause-tail : goal.returns-clause-tail
returns-clause-tail g c =
    let plan = c.args.plan.now in
    let files = c.args.files.now in
    subst (TellsTail c.in_ok-ready.ready.tail)
    (sym (loaded_tail plan files c.in_ok-ready.ready.measured.len (the_candidates plan files) c.in_ok-inputs.inputs.loaded c.in_ok-inputs.ensures.found.candidates c.in_ok-inputs.ensures.found.objects)
    ∙ ap (whole_tail plan files) (sym c.in_ok-bytes.ensures.len))
    c.in_ok-ready.ensures.tail

-- ---- what is told

pub returns-in_err-inputs-clause-told : goal.returns-in_err-inputs-clause-told
returns-in_err-inputs-clause-told g c = λ none.
    let p = err_from_is_err_and c.from_residual.result c.from_residual.ensures.1 in
    rw (p.1) (load_told c.args.plan.now c.args.files.now c.in_err-inputs.field-0.0 p.0 c.args.told.now p.2 c.in_err-inputs.ensures.exact none)

pub returns-in_err-ready-clause-told : goal.returns-in_err-ready-clause-told
returns-in_err-ready-clause-told g c = λ none.
    let p = err_from_is_err_and c.from_residual-in_err-ready.result c.from_residual-in_err-ready.ensures.1 in
    let all = the_candidates c.args.plan.now c.args.files.now in
    rw (p.1)
    (tells_on c.args.plan.now c.args.files.now all c.in_ok-inputs.inputs.loaded c.in_ok-inputs.ensures.found.candidates c.in_ok-inputs.ensures.found.objects c.in_err-ready.field-0.0 p.0
    c.prepare-prepared.new.told p.2 (c.in_err-ready.ensures.told none))

pub returns-in_err-bytes-clause-told : goal.returns-in_err-bytes-clause-told
returns-in_err-bytes-clause-told g c = λ none.
    let p = err_from_is_err_and c.from_residual-in_err-bytes.result c.from_residual-in_err-bytes.ensures.1 in
    rw (p.1, p.2) tt

pub returns-clause-told : goal.returns-clause-told
returns-clause-told g c = λ none.
    c.in_ok-ready.ensures.told none
    ∙ loaded_told c.args.plan.now c.args.files.now (the_candidates c.args.plan.now c.args.files.now) c.in_ok-inputs.inputs.loaded c.in_ok-inputs.ensures.found.candidates c.in_ok-inputs.ensures.found.objects
