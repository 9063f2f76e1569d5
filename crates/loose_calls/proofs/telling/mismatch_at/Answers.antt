use Rattle.std.proofs.Common.{◌≡◌, [], sym, ap, ◌∙◌}
use Rattle.std.specs.Prelude.{is_some, unwrap_or}
use Rattle.std.proofs.lemmas.Option.{same_Some}
use Rattle.program_tables.specs.link_program.linking_section.declared.symbol.Symbol.{Symbol}
use Rattle.program_tables.specs.link_program.name_entries.View.{entry_at}
use Rattle.program_tables.specs.link_program.link_rules.Keys.{function_type_of}
use Rattle.program_tables.proofs.Defining.{shown_entry, shown_as}
use Rattle.loose_calls.proofs.Asked.{asked, answer_there}
use Rattle.loose_calls.proofs.Leading.{answer_leads}
use Rattle.loose_calls.proofs.telling.mismatch_at.Goals as goal

pub meaning-meaning-requires : goal.meaning-meaning-requires
meaning-meaning-requires g c =
    let can = c.requires.0 in
    let entries = c.args.asking.entries in
    let (e, there, shows) = shown_entry entries.names.now.names c.in-Some.entry (entry_at entries.objects.now c.args.object c.args.place) c.in-Some.ensures in
    let a = asked c.args.asking.mode entries.objects.now g.allow c.args.asking.resolution.now c.args.object c.args.place e can.fits.objects.inputs can.resolution there in
    ap is_some (answer_there entries.objects.now c.args.asking.resolution.now c.args.object c.args.place e c.in-Some.entry.input shows.input there ∙ a.at)

pub returns : goal.returns
returns g c = λ e d there means.
    let can = c.requires.0 in
    let entries = c.args.asking.entries in
    let objects = entries.objects.now in
    let shows = shown_as entries.names.now.names c.in-Some.entry (entry_at objects c.args.object c.args.place) e c.in-Some.ensures there in
    let a = asked c.args.asking.mode objects g.allow c.args.asking.resolution.now c.args.object c.args.place e can.fits.objects.inputs can.resolution there in
    let same : a.answer ≡ c.meaning-meaning.result =
    same_Some a.answer c.meaning-meaning.result
    (sym (answer_there objects c.args.asking.resolution.now c.args.object c.args.place e c.in-Some.entry.input shows.input there ∙ a.at) ∙ c.meaning-meaning.ensures) in
    let definer = c.in_ok-definer.ensures d (answer_leads c.args.asking.mode objects g.allow c.args.asking.resolution.now c.args.object c.args.place e d c.meaning-meaning.result can.fits.objects.inputs there a same means) in
    let called = c.in_ok-called.ensures ∙ ap function_type_of (c.type_at.ensures e there) in
    let name = c.in_ok-name.ensures ∙ c.name_of.ensures ∙ ap (λ (s : Symbol). unwrap_or s.name []) shows.symbol in
    λ i. record { name = name i; called = called i; input = shows.input i; defined = (definer i).of_type; definer = (definer i).input }
