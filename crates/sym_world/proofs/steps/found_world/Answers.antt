use Rattle.std.proofs.Common.{rules, refl, sym, subst}
use Rattle.std.proofs.lemmas.Result.{err_from_is_err_and}
use Rattle.link_program.specs.link_rules.ModeOf.{mode_of}
use Rattle.link_program.specs.Loaded.{IsLoaded}
use Rattle.link_core.specs.Chosen.{IsChosen}
use Rattle.link_core.specs.Linking.{IsLinking}
use Rattle.link_core.specs.Loading.{program_in}
use Rattle.sym_world.specs.Choosing.{plain_stage, IsStage}
use Rattle.sym_world.proofs.SymAnswering.{choose_failed, goes_on_chosen}
use Rattle.link_core.proofs.Loading.{all_found, found_is_linked}
use Rattle.sym_world.proofs.SymOpened.{plain_in}
use Rattle.sym_world.proofs.SymLoading.{find_stops}
use Rattle.sym_world.proofs.steps.found_world.Goals as goal

pub find-requires : goal.find-requires
find-requires g c κs within =
    let loaded =
    subst (λ hs. IsLoaded g.l.origin.files g.l.origin.all c.objects-objects.result.now hs) (sym c.homes.ensures)
    (subst (λ os. IsLoaded g.l.origin.files g.l.origin.all os c.args.inputs.now.homes) (sym c.objects-objects.ensures) c.requires.1.1.1.1.1.1.1.1.0) in
    search (rules, loaded)

pub returns-in_err-found : goal.returns-in_err-found
returns-in_err-found g c =
    let p = err_from_is_err_and c.from_residual.result c.from_residual.ensures.1 in
    rw (p.1)
    (find_stops g.l c.args.plan.now c.args.inputs.now.loaded c.objects-objects.result.now c.requires.1.1.1.1.1.0 c.requires.1.1.1.1.1.1.1.0 c.objects-objects.ensures c.in_err-found.field-0.0 p.0 p.2 c.in_err-found.ensures)

pub choose-requires : goal.choose-requires
choose-requires g c κs within =
    let is : IsLinking (program_in g.l) c.program-program.result c.view-entries.result c.args.files.now =
    found_is_linked g.l c.args.plan.now c.args.inputs.now.loaded c.objects-objects.result.now c.requires.1.1.1.1.1.0 c.requires.1.1.1.1.1.1.1.0 c.objects-objects.ensures c.args.files.now
    c.args.inputs.now.homes c.in_ok-found.found c.program-program.result c.view-entries.result c.requires.1.1.1.1.0 c.requires.1.1.1.1.1.1.0 c.requires.1.1.1.1.1.1.1.1.0 c.parts_stand.ensures c.in_ok-found.ensures.1
    (c.program-program.ensures.is (mode_of c.args.plan.now)) c.view-entries.ensures.fits c.view-entries.ensures.objects c.program-program.ensures.objects c.view-entries.ensures.names c.program-program.ensures.names in
    let plain = plain_in g.l c.args.plan.now c.requires.1.1.1.1.1.0 c.requires.1.1.1.1.1.1.1.1.1 in
    let program = is.program in
    let fits = is.fits in
    let objects = is.objects in
    let stand = is.stand in
    search (rules, program, fits, objects, stand, plain)

pub returns-in_err-chosen : goal.returns-in_err-chosen
returns-in_err-chosen g c =
    let p = err_from_is_err_and c.from_residual-in_err-chosen.result c.from_residual-in_err-chosen.ensures.1 in
    let found = all_found g.l c.args.plan.now c.args.inputs.now.loaded c.objects-objects.result.now c.requires.1.1.1.1.1.0 c.requires.1.1.1.1.1.1.1.0 c.objects-objects.ensures c.in_ok-found.ensures.0 in
    rw (p.1) (choose_failed (program_in g.l) c.in_err-chosen.field-0.0 p.0 p.2 found c.in_err-chosen.ensures)

pub placed_world-world-requires : goal.placed_world-world-requires
placed_world-world-requires g c κs within =
    let is : IsLinking (program_in g.l) c.program-program.result c.view-entries.result c.args.files.now =
    found_is_linked g.l c.args.plan.now c.args.inputs.now.loaded c.objects-objects.result.now c.requires.1.1.1.1.1.0 c.requires.1.1.1.1.1.1.1.0 c.objects-objects.ensures c.args.files.now
    c.args.inputs.now.homes c.in_ok-found.found c.program-program.result c.view-entries.result c.requires.1.1.1.1.0 c.requires.1.1.1.1.1.1.0 c.requires.1.1.1.1.1.1.1.1.0 c.parts_stand.ensures c.in_ok-found.ensures.1
    (c.program-program.ensures.is (mode_of c.args.plan.now)) c.view-entries.ensures.fits c.view-entries.ensures.objects c.program-program.ensures.objects c.view-entries.ensures.names c.program-program.ensures.names in
    let chosen : IsChosen (plain_stage (program_in g.l)) c.program-program.result c.as_slice-exports.result.now c.as_slice-live.result.now =
    subst (λ es. IsChosen (plain_stage (program_in g.l)) c.program-program.result es c.as_slice-live.result.now) (sym c.as_slice-exports.ensures)
    (subst (λ ns. IsChosen (plain_stage (program_in g.l)) c.program-program.result c.in_ok-chosen.chosen.exports ns) (sym c.as_slice-live.ensures) c.in_ok-chosen.ensures.1) in
    let stage : IsStage (plain_stage (program_in g.l)) = refl in
    let plain = plain_in g.l c.args.plan.now c.requires.1.1.1.1.1.0 c.requires.1.1.1.1.1.1.1.1.1 in
    (search rules, (search rules, (is, (chosen, (stage, plain)))))

pub returns : goal.returns
returns g c =
    let found = all_found g.l c.args.plan.now c.args.inputs.now.loaded c.objects-objects.result.now c.requires.1.1.1.1.1.0 c.requires.1.1.1.1.1.1.1.0 c.objects-objects.ensures c.in_ok-found.ensures.0 in
    goes_on_chosen (program_in g.l) c.placed_world-world.result found c.in_ok-chosen.ensures.0 c.placed_world-world.ensures
