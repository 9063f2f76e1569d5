use Rattle.std.proofs.Common.{◌≡◌, ◌==◌, true, false, not, ◌&&◌, sym, ap, ◌∙◌}
use Rattle.std.specs.Prelude.{is_some}
use Rattle.std.proofs.lemmas.Option.{same_Some}
use Rattle.program_tables.specs.link_program.linking_section.declared.symbol.SymbolKind.TheVariants.{Function}
use Rattle.program_tables.specs.link_program.linking_section.Flags.{kind_code}
use Rattle.program_tables.specs.link_program.name_rules.Entries.{entries as all_entries, is_kind}
use Rattle.program_tables.specs.link_program.name_rules.Cases.{has_other_type}
use Rattle.program_tables.specs.link_program.name_entries.View.{entry_at}
use Rattle.program_tables.proofs.Defining.{shown_entry, shown_as}
use Rattle.loose_calls.specs.Found.{is_here}
use Rattle.loose_calls.proofs.Asked.{asked, answer_there, loosened_is, never_loose}
use Rattle.loose_calls.proofs.finding.Asking.is_loose.Goals as goal

pub meaning-meaning-requires : goal.meaning-meaning-requires
meaning-meaning-requires g c =
    let can = c.requires.0 in
    let entries = c.args.self.entries in
    let (e, there, shows) = shown_entry entries.names.now.names c.in-Some.entry (entry_at entries.objects.now c.args.object c.args.place) c.in-Some.ensures in
    let a = asked c.args.self.mode entries.objects.now g.allow c.args.self.resolution.now c.args.object c.args.place e can.fits.objects.inputs can.resolution there in
    ap is_some (answer_there entries.objects.now c.args.self.resolution.now c.args.object c.args.place e c.in-Some.entry.input shows.input there ∙ a.at)

pub returns-then-not-can_differ : goal.returns-then-not-can_differ
returns-then-not-can_differ g c = λ e there.
    let entries = c.args.self.entries in
    let shows = shown_as entries.names.now.names c.in-Some.entry (entry_at entries.objects.now c.args.object c.args.place) e c.in-Some.ensures there in
    let not_so : (is_kind Function e && not e.defines) ≡ false =
    (λ i. (kind_code (sym shows.symbol i).kind == kind_code Function) && not (sym shows.defines i)) ∙ sym c.can_differ.ensures ∙ c.if-not-can_differ.true in
    sym (never_loose c.args.self.mode entries.objects.now g.allow e not_so)

pub returns-then-not-is_here : goal.returns-then-not-is_here
returns-then-not-is_here g c = λ e there.
    let can = c.requires.0 in
    let entries = c.args.self.entries in
    let objects = entries.objects.now in
    let shows = shown_as entries.names.now.names c.in-Some.entry (entry_at objects c.args.object c.args.place) e c.in-Some.ensures there in
    let a = asked c.args.self.mode objects g.allow c.args.self.resolution.now c.args.object c.args.place e can.fits.objects.inputs can.resolution there in
    let same : a.answer ≡ c.meaning-meaning.result =
    same_Some a.answer c.meaning-meaning.result
    (sym (answer_there objects c.args.self.resolution.now c.args.object c.args.place e c.in-Some.entry.input shows.input there ∙ a.at) ∙ c.meaning-meaning.ensures) in
    let not_so : is_here c.meaning-meaning.result ≡ false = sym c.is_here.ensures ∙ c.if-not-is_here.true in
    sym (ap (λ b. b && has_other_type (all_entries c.args.self.mode objects) e) not_so) ∙ loosened_is c.args.self.mode objects g.allow c.args.self.resolution.now e c.meaning-meaning.result a same

pub returns : goal.returns
returns g c = λ e there.
    let can = c.requires.0 in
    let entries = c.args.self.entries in
    let objects = entries.objects.now in
    let shows = shown_as entries.names.now.names c.in-Some.entry (entry_at objects c.args.object c.args.place) e c.in-Some.ensures there in
    let a = asked c.args.self.mode objects g.allow c.args.self.resolution.now c.args.object c.args.place e can.fits.objects.inputs can.resolution there in
    let same : a.answer ≡ c.meaning-meaning.result =
    same_Some a.answer c.meaning-meaning.result
    (sym (answer_there objects c.args.self.resolution.now c.args.object c.args.place e c.in-Some.entry.input shows.input there ∙ a.at) ∙ c.meaning-meaning.ensures) in
    let is_so : is_here c.meaning-meaning.result ≡ true = sym c.is_here.ensures ∙ c.if-not-is_here.false in
    c.has_other_type.ensures e there
    ∙ sym (ap (λ b. b && has_other_type (all_entries c.args.self.mode objects) e) is_so)
    ∙ loosened_is c.args.self.mode objects g.allow c.args.self.resolution.now e c.meaning-meaning.result a same
