use Rattle.std.proofs.Common.{◌≡◌, ◌<◌, ◌^◌, ◌++◌, List, false, All, rules, sym, ap, subst, length}
use Rattle.std.specs.Prelude.{bytes_eq}
use Rattle.std.specs.List.{list_any}
use Rattle.loose_calls.specs.link_program.made_symbols.declared.mode.Mode.{Mode}
use Rattle.loose_calls.specs.link_program.object_file.declared.object.Object.{Object}
use Rattle.loose_calls.specs.link_program.link_plan.declared.plan.Plan.{Plan}
use Rattle.loose_calls.specs.link_program.link_names.Numbered.{Numbered, AreNumbers}
use Rattle.loose_calls.specs.link_program.name_rules.Entries.{InputSymbol, entries, name_of}
use Rattle.loose_calls.specs.link_program.name_rules.Meanings.{resolve}
use Rattle.loose_calls.specs.link_program.name_entries.View.{WinnersAre}
use Rattle.loose_calls.specs.link_program.name_entries.Fits.{Fits, IsTable}
use Rattle.loose_calls.specs.link_program.name_meanings.Means.{IsResolution}
use Rattle.loose_calls.specs.link_program.link_rules.Program.{program_of}
use Rattle.loose_calls.specs.link_program.Loaded.{IsLoaded}
use Rattle.loose_calls.specs.link_program.Program.{AreTables, variant_names}
use Rattle.loose_calls.specs.program_tables.Loose.{IsLoose, variants_in}
use Rattle.loose_calls.specs.Interned.{Stays}
use Rattle.program_build.specs.Steps.{AreMeant}
use Rattle.program_build.specs.Found.{IsFound}
use Rattle.program_build.proofs.Finding.{program, numbers_are, table_is, ranks_are, is_found}
use Rattle.program_build.proofs.building.found_by.Goals as goal

pub loosened-requires : goal.loosened-requires
loosened-requires g c =
    let loaded : IsLoaded g.origin.files g.origin.all c.args.objects.now c.args.homes.now = c.requires.1.1.1.0 in
    let meant : AreMeant c.mode_of-mode.result g.origin c.args.objects.now c.args.names c.args.entries c.args.meanings =
    subst (λ (m : Mode). AreMeant m g.origin c.args.objects.now c.args.names c.args.entries c.args.meanings) (sym c.mode_of-mode.ensures) c.requires.1.1.1.1 in
    let numbers = meant.numbered.2 in
    let rise = loaded.rise in
    let table = meant.looked_up in
    let resolved = meant.meanings.resolved in
    (numbers, (rise, (table, resolved)))

pub tables_of-requires : goal.tables_of-requires
tables_of-requires g c κs within =
    let origin = g.origin in
    let objects = c.args.objects.now in
    let n = c.args.names in
    let m = c.loosened.new.names in
    let ms = c.args.meanings in
    let same : origin.plan ≡ c.args.plan.now = c.requires.1.1.0 in
    let loaded : IsLoaded origin.files origin.all objects c.args.homes.now = c.requires.1.1.1.0 in
    let mode : Mode = c.mode_of-mode.result in
    let meant : AreMeant mode origin objects n c.args.entries ms = subst (λ (m : Mode). AreMeant m origin objects n c.args.entries ms) (sym c.mode_of-mode.ensures) c.requires.1.1.1.1 in
    let like : c.args.plan.now.loose_calls ≡ origin.plan.loose_calls = ap (λ (p : Plan). p.loose_calls) (sym same) in
    let stays : Stays n m = c.in_ok-loose.ensures.stays in
    let few : length m.names < 2 ^ 32 = c.in_ok-loose.ensures.few in
    let behind = subst (λ b. m.names ≡ n.names ++ variant_names (variants_in mode b origin.plan.allow_undefined objects)) like c.in_ok-loose.ensures.names in
    let apart = subst (λ b. All (λ (v : InputSymbol). list_any (bytes_eq (name_of v)) n.names ≡ false) (variants_in mode b origin.plan.allow_undefined objects)) like c.in_ok-loose.ensures.apart in
    let numbers : AreNumbers mode objects m = numbers_are mode origin objects n m c.args.entries ms c.args.homes.now loaded meant stays few behind apart in
    let table : IsTable objects m c.args.entries = table_is mode origin objects n m c.args.entries ms c.args.homes.now loaded meant stays few behind apart in
    let fits : Fits mode c.view-view.result = c.view-view.ensures.fits mode numbers loaded.rise table in
    let of_objects = c.view-view.ensures.objects in
    let of_names = c.view-view.ensures.names in
    let won : WinnersAre c.view-view.result.names.now.names (entries mode c.view-view.result.objects.now) ms.ranks =
    subst (λ (ns : Numbered). WinnersAre ns.names (entries mode c.view-view.result.objects.now) ms.ranks) (sym of_names)
    (subst (λ (os : List Object). WinnersAre m.names (entries mode os) ms.ranks) (sym of_objects) (ranks_are mode origin objects n m c.args.entries ms c.args.homes.now loaded meant stays few behind apart)) in
    let resolved : IsResolution mode (entries mode c.view-view.result.objects.now) ms.resolution (resolve mode origin.plan.allow_undefined (entries mode c.view-view.result.objects.now) c.view-view.result.objects.now) =
    subst (λ (os : List Object). IsResolution mode (entries mode os) ms.resolution (resolve mode origin.plan.allow_undefined (entries mode os) os)) (sym of_objects) meant.meanings.resolved in
    let homes : IsLoaded origin.files origin.all c.view-view.result.objects.now c.args.homes.now = subst (λ (os : List Object). IsLoaded origin.files origin.all os c.args.homes.now) (sym of_objects) loaded in
    let loose : IsLoose mode origin.plan.loose_calls origin.plan.allow_undefined c.view-view.result.names.now.names ms.resolution.imports c.view-view.result.objects.now c.in_ok-loose.loose =
    subst (λ (ns : Numbered). IsLoose mode origin.plan.loose_calls origin.plan.allow_undefined ns.names ms.resolution.imports c.view-view.result.objects.now c.in_ok-loose.loose) (sym of_names)
    (subst (λ (os : List Object). IsLoose mode origin.plan.loose_calls origin.plan.allow_undefined m.names ms.resolution.imports os c.in_ok-loose.loose) (sym of_objects)
    (subst (λ b. IsLoose mode b origin.plan.allow_undefined m.names ms.resolution.imports objects c.in_ok-loose.loose) like c.in_ok-loose.ensures.loose)) in
    (search rules, (search rules, (fits, (won, (resolved, (homes, loose))))))

pub returns : goal.returns
returns g c =
    let origin = g.origin in
    let objects = c.args.objects.now in
    let n = c.args.names in
    let m = c.loosened.new.names in
    let ms = c.args.meanings in
    let same : origin.plan ≡ c.args.plan.now = c.requires.1.1.0 in
    let loaded : IsLoaded origin.files origin.all objects c.args.homes.now = c.requires.1.1.1.0 in
    let mode : Mode = c.mode_of-mode.result in
    let meant : AreMeant mode origin objects n c.args.entries ms = subst (λ (m : Mode). AreMeant m origin objects n c.args.entries ms) (sym c.mode_of-mode.ensures) c.requires.1.1.1.1 in
    let like : c.args.plan.now.loose_calls ≡ origin.plan.loose_calls = ap (λ (p : Plan). p.loose_calls) (sym same) in
    let behind = subst (λ b. m.names ≡ n.names ++ variant_names (variants_in mode b origin.plan.allow_undefined objects)) like c.in_ok-loose.ensures.names in
    let apart = subst (λ b. All (λ (v : InputSymbol). list_any (bytes_eq (name_of v)) n.names ≡ false) (variants_in mode b origin.plan.allow_undefined objects)) like c.in_ok-loose.ensures.apart in
    let tables : AreTables m.names ms.resolution.imports c.in_ok-tables.tables (program mode origin objects) =
    subst (λ (ns : Numbered). AreTables ns.names ms.resolution.imports c.in_ok-tables.tables (program mode origin objects)) c.view-view.ensures.names
    (subst (λ (os : List Object). AreTables c.view-view.result.names.now.names ms.resolution.imports c.in_ok-tables.tables (program mode origin os)) c.view-view.ensures.objects c.in_ok-tables.ensures) in
    subst (λ (k : Mode). IsFound k c.args.plan.now objects (record { names = m; entries = c.args.entries; ranks = ms.ranks; resolution = ms.resolution; tables = c.in_ok-tables.tables }) (program_of k c.args.plan.now origin.files origin.all objects)) c.mode_of-mode.ensures
    (subst (λ (plan : Plan). IsFound mode plan objects (record { names = m; entries = c.args.entries; ranks = ms.ranks; resolution = ms.resolution; tables = c.in_ok-tables.tables }) (program_of mode plan origin.files origin.all objects)) same
    (is_found mode origin objects n m c.args.entries ms c.args.homes.now loaded meant c.in_ok-loose.ensures.stays c.in_ok-loose.ensures.few behind apart c.in_ok-tables.tables tables))
