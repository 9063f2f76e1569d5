use Rattle.std.proofs.Common.{sym, ap, subst, ◌∙◌}
use Rattle.std.specs.Prelude.{is_some}
use Rattle.std.proofs.lemmas.Option.{same_Some}
use Rattle.link_program.specs.linking_section.declared.symbol.Symbol.{Symbol}
use Rattle.link_program.specs.name_entries.View.{entry_at, entry_number}
use Rattle.link_program.specs.name_meanings.Means.{answer_at}
use Rattle.program_tables.specs.Leads.{IsThere, lead_at}
use Rattle.program_tables.proofs.Defining.{shown_entry, shown_as, placed_at}
use Rattle.program_tables.proofs.symbols.symbol_at.Goals as goal

pub meaning-meaning-requires : goal.meaning-meaning-requires
meaning-meaning-requires c =
    let entries = c.args.sources.entries in
    let r = c.in-Some.entry in
    let (e, there, shows) = shown_entry entries.names.now.names r (entry_at entries.objects.now c.args.object c.args.place) c.in-Some.ensures in
    let answer = c.requires.sources.answers c.args.object c.args.place e there in
    ap is_some (ap (λ n. answer_at c.args.sources.resolution.now n c.args.place) shows.input
    ∙ ap (answer_at c.args.sources.resolution.now e.input) (sym (placed_at entries.objects.now c.args.object c.args.place e there)) ∙ answer.1)

pub lead_of-requires-clause-there : goal.lead_of-requires-clause-there
lead_of-requires-clause-there c =
    let entries = c.args.sources.entries in
    let r = c.in-Some.entry in
    let (e, there, shows) = shown_entry entries.names.now.names r (entry_at entries.objects.now c.args.object c.args.place) c.in-Some.ensures in
    let answer = c.requires.sources.answers c.args.object c.args.place e there in
    let at = ap (λ n. answer_at c.args.sources.resolution.now n c.args.place) shows.input
    ∙ ap (answer_at c.args.sources.resolution.now e.input) (sym (placed_at entries.objects.now c.args.object c.args.place e there)) ∙ answer.1 in
    subst (IsThere c.args.sources.mode entries.objects.now) (same_Some answer.0 c.meaning-meaning.result (sym at ∙ c.meaning-meaning.ensures)) answer.2

pub returns : goal.returns
returns c = λ e there.
    let entries = c.args.sources.entries in
    let r = c.in-Some.entry in
    let shows = shown_as entries.names.now.names r (entry_at entries.objects.now c.args.object c.args.place) e c.in-Some.ensures there in
    let at = sym (ap (λ n. answer_at c.args.sources.resolution.now n c.args.place) shows.input
    ∙ ap (answer_at c.args.sources.resolution.now e.input) (sym (placed_at entries.objects.now c.args.object c.args.place e there))) ∙ c.meaning-meaning.ensures in
    ap (λ (k : Symbol). record { kind = k.kind; name = r.number; lead = c.lead_of.result }) shows.symbol
    ∙ ap (λ n. record { kind = e.symbol.kind; name = n; lead = c.lead_of.result }) shows.number
    ∙ ap (λ l. record { kind = e.symbol.kind; name = entry_number entries.names.now.names e; lead = l }) (c.lead_of.ensures ∙ ap (lead_at c.args.sources.mode entries.objects.now) (sym at))
