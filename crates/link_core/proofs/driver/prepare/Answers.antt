use Rattle.std.proofs.Common.{rules, sym, subst, ◌∙◌}
use Rattle.std.proofs.lemmas.Result.{err_from_is_err_and}
use Rattle.link_output.specs.link_program.link_rules.ModeOf.{mode_of}
use Rattle.link_output.specs.link_program.link_rules.Program.{program_of}
use Rattle.link_output.specs.link_program.Loaded.{IsLoaded}
use Rattle.mismatch_rules.specs.Mismatches.{standing}
use Rattle.called_variants.specs.Called.{told_of}
use Rattle.link_core.specs.Telling.{TellsBeside}
use Rattle.link_core.specs.Chosen.{stage_of, IsChosen}
use Rattle.link_core.specs.Linking.{IsLinking}
use Rattle.link_core.specs.Loading.{program_in}
use Rattle.link_core.specs.Prepared.{outputs}
use Rattle.link_core.proofs.Answering.{choose_failed, goes_on_chosen}
use Rattle.link_core.proofs.Loading.{find_stops, due_is, all_found, found_is_linked, loaded_there}
use Rattle.link_core.proofs.Listing.{tells_by, tells_all}
use Rattle.link_core.proofs.Tails.{prepared_tail}
use Rattle.link_core.proofs.driver.prepare.Goals as goal

pub find_telling-requires : goal.find_telling-requires
find_telling-requires g c κs within =
    let loaded =
    subst (λ hs. IsLoaded g.l.origin.files g.l.origin.all c.objects-objects.result.now hs) (sym c.homes-homes.ensures)
    (subst (λ os. IsLoaded g.l.origin.files g.l.origin.all os c.args.inputs.now.homes) (sym c.objects-objects.ensures) c.requires.1.1.1.1.1.1.1.1) in
    (search rules, (search rules, (search rules, (search rules, (c.requires.1.1.1.1.0, (c.requires.1.1.1.1.1.0, loaded))))))

pub returns-in_err-found-clause-exact : goal.returns-in_err-found-clause-exact
returns-in_err-found-clause-exact g c =
    let p = err_from_is_err_and c.from_residual.result c.from_residual.ensures.1 in
    rw (p.1)
    (find_stops g.l c.args.plan.now c.args.inputs.now.loaded c.objects-objects.result.now c.requires.1.1.1.1.1.0 c.requires.1.1.1.1.1.1.1.0 c.objects-objects.ensures (mode_of c.args.plan.now) c.in_err-found.field-0.0 p.0 p.2 c.in_err-found.ensures.found)

pub choose-requires : goal.choose-requires
choose-requires g c κs within =
    let is : IsLinking (program_in g.l) c.program-program.result c.view-entries.result c.args.files.now =
    found_is_linked g.l c.args.plan.now c.args.inputs.now.loaded c.objects-objects.result.now c.requires.1.1.1.1.1.0 c.requires.1.1.1.1.1.1.1.0 c.objects-objects.ensures c.args.files.now
    c.args.inputs.now.homes c.in_ok-found.found c.program-program.result c.view-entries.result c.requires.1.1.1.1.0 c.requires.1.1.1.1.1.1.0 c.requires.1.1.1.1.1.1.1.1 c.parts_stand.ensures c.in_ok-found.ensures.found.1
    (c.program-program.ensures.is (mode_of c.args.plan.now)) c.view-entries.ensures.fits c.view-entries.ensures.objects c.program-program.ensures.objects c.view-entries.ensures.names c.program-program.ensures.names in
    let program = is.program in
    let fits = is.fits in
    let objects = is.objects in
    let stand = is.stand in
    (search rules, (search rules, (search rules, (search rules, (program, (fits, (objects, stand)))))))

pub returns-in_err-chosen-clause-exact : goal.returns-in_err-chosen-clause-exact
returns-in_err-chosen-clause-exact g c =
    let p = err_from_is_err_and c.from_residual-in_err-chosen.result c.from_residual-in_err-chosen.ensures.1 in
    let found = all_found g.l c.args.plan.now c.args.inputs.now.loaded c.objects-objects.result.now c.requires.1.1.1.1.1.0 c.requires.1.1.1.1.1.1.1.0 c.objects-objects.ensures c.in_ok-found.ensures.found.0 in
    rw (p.1) (choose_failed (mode_of (program_in g.l).plan) (program_in g.l) c.in_err-chosen.field-0.0 p.0 p.2 found c.in_err-chosen.ensures)

pub lay_out-prepared-requires : goal.lay_out-prepared-requires
lay_out-prepared-requires g c κs within =
    let is : IsLinking (program_in g.l) c.program-program.result c.view-entries.result c.args.files.now =
    found_is_linked g.l c.args.plan.now c.args.inputs.now.loaded c.objects-objects.result.now c.requires.1.1.1.1.1.0 c.requires.1.1.1.1.1.1.1.0 c.objects-objects.ensures c.args.files.now
    c.args.inputs.now.homes c.in_ok-found.found c.program-program.result c.view-entries.result c.requires.1.1.1.1.0 c.requires.1.1.1.1.1.1.0 c.requires.1.1.1.1.1.1.1.1 c.parts_stand.ensures c.in_ok-found.ensures.found.1
    (c.program-program.ensures.is (mode_of c.args.plan.now)) c.view-entries.ensures.fits c.view-entries.ensures.objects c.program-program.ensures.objects c.view-entries.ensures.names c.program-program.ensures.names in
    let chosen : IsChosen (stage_of (program_in g.l)) c.program-program.result c.as_slice-exports.result.now c.as_slice-live.result.now =
    subst (λ es. IsChosen (stage_of (program_in g.l)) c.program-program.result es c.as_slice-live.result.now) (sym c.as_slice-exports.ensures)
    (subst (λ ns. IsChosen (stage_of (program_in g.l)) c.program-program.result c.in_ok-chosen.chosen.exports ns) (sym c.as_slice-live.ensures) c.in_ok-chosen.ensures.1) in
    let loaded = loaded_there g.l c.args.plan.now c.args.inputs.now.loaded c.objects-objects.result.now c.requires.1.1.1.1.1.0 c.requires.1.1.1.1.1.1.1.0 c.objects-objects.ensures
    c.args.inputs.now.homes c.homes-homes.result.now c.homes-homes.ensures c.requires.1.1.1.1.1.1.1.1 in
    (search rules, (search rules, (is, (chosen, loaded))))

pub returns-clause-exact : goal.returns-clause-exact
returns-clause-exact g c =
    let found = all_found g.l c.args.plan.now c.args.inputs.now.loaded c.objects-objects.result.now c.requires.1.1.1.1.1.0 c.requires.1.1.1.1.1.1.1.0 c.objects-objects.ensures c.in_ok-found.ensures.found.0 in
    goes_on_chosen (mode_of (program_in g.l).plan) (program_in g.l) (outputs c.args.files.now c.lay_out-prepared.result) found c.in_ok-chosen.ensures.0 c.lay_out-prepared.ensures.exact

pub returns-clause-tail : goal.returns-clause-tail
returns-clause-tail g c = prepared_tail g.l c.lay_out-prepared.result c.lay_out-prepared.ensures.tail

-- ---- what is told

pub returns-in_err-found-clause-told : goal.returns-in_err-found-clause-told
returns-in_err-found-clause-told g c = λ none.
    let p = err_from_is_err_and c.from_residual.result c.from_residual.ensures.1 in
    let told = c.find_telling.new.told in
    let program = program_of (mode_of c.args.plan.now) c.args.plan.now g.l.origin.files g.l.origin.all c.objects-objects.result.now in
    rw (p.1)
    (subst (TellsBeside p.0 told) (due_is g.l c.args.plan.now c.args.inputs.now.loaded c.objects-objects.result.now c.requires.1.1.1.1.1.0 c.requires.1.1.1.1.1.1.1.0 c.objects-objects.ensures)
    (tells_by c.in_err-found.field-0.0 p.0 told (told_of (standing program)) p.2 (c.in_err-found.ensures.told none)))

pub returns-in_err-chosen-clause-told : goal.returns-in_err-chosen-clause-told
returns-in_err-chosen-clause-told g c = λ none.
    tells_all c.from_residual-in_err-chosen.result c.find_telling.new.told (told_of (standing (program_in g.l)))
    (c.in_ok-found.ensures.told none ∙ due_is g.l c.args.plan.now c.args.inputs.now.loaded c.objects-objects.result.now c.requires.1.1.1.1.1.0 c.requires.1.1.1.1.1.1.1.0 c.objects-objects.ensures)

pub returns-clause-told : goal.returns-clause-told
returns-clause-told g c = λ none.
    tells_all c.lay_out-prepared.result c.find_telling.new.told (told_of (standing (program_in g.l)))
    (c.in_ok-found.ensures.told none ∙ due_is g.l c.args.plan.now c.args.inputs.now.loaded c.objects-objects.result.now c.requires.1.1.1.1.1.0 c.requires.1.1.1.1.1.1.1.0 c.objects-objects.ensures)
