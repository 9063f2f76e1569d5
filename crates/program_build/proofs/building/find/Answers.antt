use Rattle.std.proofs.Common.{rules, refl, ap, subst, Ok, [], ◌∷◌}
use Rattle.loose_calls.specs.link_program.made_symbols.declared.mode.Mode.{Mode}
use Rattle.loose_calls.specs.link_program.link_rules.ModeOf.{mode_of}
use Rattle.loose_calls.specs.link_program.Loaded.{Origin}
use Rattle.loose_calls.specs.link_program.name_rules.Entries.{entries}
use Rattle.loose_calls.specs.link_program.name_rules.Cases.{clash_by, duplicate}
use Rattle.program_build.specs.Found.{Finds}
use Rattle.program_build.specs.Steps.{Numbered, AreMeant, MeansOrRefused}
use Rattle.program_build.proofs.Finding.{program, names_refused, meanings_refused, all_found, first_none, seen_meanings}
use Rattle.program_build.proofs.building.find.Goals as goal

pub returns-in_err-names : goal.returns-in_err-names
returns-in_err-names g c =
    let origin : Origin = record { plan = c.args.plan.now; files = g.origin.files; all = g.origin.all } in
    subst (λ (m : Mode). Finds m c.from_residual.result c.args.plan.now c.args.objects.now (program m origin c.args.objects.now)) c.mode_of-mode.ensures
    (names_refused c.mode_of-mode.result origin c.args.objects.now c.from_residual.result c.in_err-names.field-0.0 c.numbers_of.result c.in_err-names.was c.numbers_of.ensures c.from_residual.ensures)

pub meanings_of-requires : goal.meanings_of-requires
meanings_of-requires g c κs within =
    let fits = c.view-view.ensures.fits c.mode_of-mode.result c.in_ok-names.ensures.2 c.requires.1.1.1.1.1.1.rise c.in_ok-entries.ensures in
    let same = c.requires.1.1.1.1.1.0 in
    (search rules, (search rules, (search rules, (search rules, (same, fits)))))

pub returns-in_err-meanings : goal.returns-in_err-meanings
returns-in_err-meanings g c =
    let mode : Mode = c.mode_of-mode.result in
    let origin : Origin = record { plan = c.args.plan.now; files = g.origin.files; all = g.origin.all } in
    let told = seen_meanings mode g.origin c.args.plan.now c.args.objects.now c.view-view.result.objects.now c.in_ok-names.names.names c.view-view.result.names.now.names c.meanings_of.result
    c.requires.1.1.1.1.1.0 c.view-view.ensures.objects (ap (λ n. n.names) c.view-view.ensures.names) c.meanings_of.ensures in
    subst (λ (m : Mode). Finds m c.from_residual-in_err-meanings.result c.args.plan.now c.args.objects.now (program m origin c.args.objects.now)) c.mode_of-mode.ensures
    (meanings_refused mode origin c.args.objects.now c.in_ok-names.names c.from_residual-in_err-meanings.result c.in_err-meanings.field-0.0 c.meanings_of.result c.in_ok-names.ensures c.in_err-meanings.was told c.from_residual-in_err-meanings.ensures)

pub found_by-requires : goal.found_by-requires
found_by-requires g c κs within =
    let mode : Mode = c.mode_of-mode.result in
    let origin : Origin = record { plan = c.args.plan.now; files = g.origin.files; all = g.origin.all } in
    let told = seen_meanings mode g.origin c.args.plan.now c.args.objects.now c.view-view.result.objects.now c.in_ok-names.names.names c.view-view.result.names.now.names (Ok c.in_ok-meanings.meanings)
    c.requires.1.1.1.1.1.0 c.view-view.ensures.objects (ap (λ n. n.names) c.view-view.ensures.names) c.in_ok-meanings.ensures in
    let loaded = c.requires.1.1.1.1.1.1 in
    let meant : AreMeant mode origin c.args.objects.now c.in_ok-names.names c.in_ok-entries.entries c.in_ok-meanings.meanings = record {
      numbered = c.in_ok-names.ensures;
      looked_up = c.in_ok-entries.ensures;
      meanings = told.1;
      unclashed = first_none (clash_by origin.plan.loose_calls (entries mode c.args.objects.now)) (duplicate (entries mode c.args.objects.now) ∷ []) told.0;
    } in
    let asked : AreMeant (mode_of c.args.plan.now) origin c.args.objects.now c.in_ok-names.names c.in_ok-entries.entries c.in_ok-meanings.meanings =
    subst (λ (m : Mode). AreMeant m origin c.args.objects.now c.in_ok-names.names c.in_ok-entries.entries c.in_ok-meanings.meanings) c.mode_of-mode.ensures meant in
    (search rules, (search rules, (refl, (loaded, asked))))

pub returns : goal.returns
returns g c =
    let mode : Mode = c.mode_of-mode.result in
    let origin : Origin = record { plan = c.args.plan.now; files = g.origin.files; all = g.origin.all } in
    let told = seen_meanings mode g.origin c.args.plan.now c.args.objects.now c.view-view.result.objects.now c.in_ok-names.names.names c.view-view.result.names.now.names (Ok c.in_ok-meanings.meanings)
    c.requires.1.1.1.1.1.0 c.view-view.ensures.objects (ap (λ n. n.names) c.view-view.ensures.names) c.in_ok-meanings.ensures in
    let numbered = subst (λ (m : Mode). Numbered m (Ok c.in_ok-names.names) c.args.plan.now c.args.objects.now) c.mode_of-mode.ensures c.in_ok-names.ensures in
    let meant = subst (λ (m : Mode). MeansOrRefused m (Ok c.in_ok-meanings.meanings) origin c.args.objects.now c.in_ok-names.names.names) c.mode_of-mode.ensures told in
    all_found (mode_of c.args.plan.now) origin c.args.objects.now c.in_ok-names.names c.in_ok-meanings.meanings c.in_ok-found.found numbered meant c.in_ok-found.ensures
