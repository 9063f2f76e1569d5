use Rattle.std.proofs.Common.{Some, sym, ap, subst, ◌∙◌, ◌<◌, ◌^◌, ℕ}
use Rattle.link_program.specs.wl_base.Choice.{given}
use Rattle.link_program.specs.linking_section.declared.symbol.Symbol.{Symbol}
use Rattle.link_program.specs.name_entries.View.{entry_at}
use Rattle.link_program.specs.declared.symbol.Definition.{Definition}
use Rattle.link_program.specs.Told.{told_definition}
use Rattle.program_tables.proofs.Defining.{shown_entry, shown_as, small_class, small_input, lent_wins}
use Rattle.program_tables.proofs.winners.winner_at.Goals as goal

pub rank-requires-clause-class : goal.rank-requires-clause-class
rank-requires-clause-class c =
    let entries = c.args.entries in
    let (e, there, shows) = shown_entry entries.names.now.names c.in-Some.entry (entry_at entries.objects.now c.args.object c.args.place) c.in-Some.ensures in
    subst (λ (n : ℕ). n < 3) (sym shows.class) (small_class entries.objects.now c.args.object c.args.place e there)

pub rank-requires-clause-input : goal.rank-requires-clause-input
rank-requires-clause-input c =
    let entries = c.args.entries in
    let (e, there, shows) = shown_entry entries.names.now.names c.in-Some.entry (entry_at entries.objects.now c.args.object c.args.place) c.in-Some.ensures in
    subst (λ (n : ℕ). n < 2 ^ 20) (sym shows.input) (small_input entries.objects.now c.args.object c.args.place e c.requires.fits.inputs there)

pub returns-then-not-is_rank : goal.returns-then-not-is_rank
returns-then-not-is_rank c = λ e there.
    let entries = c.args.entries in
    let won = lent_wins entries.names.now.names c.args.ranks.now entries.objects.now c.args.object c.args.place c.in-Some.entry c.in_ok-name.name c.rank.result c.of.result c.is_rank.result
    c.in-Some.ensures c.in_ok-name.was c.rank.ensures c.of.ensures c.is_rank.ensures e there in
    sym (won ∙ ap (λ b. given b (record { definition = told_definition e; name = c.in_ok-name.name; flags = e.symbol.flags })) c.if-not-is_rank.true)

pub returns : goal.returns
returns c = λ e there.
    let entries = c.args.entries in
    let shows = shown_as entries.names.now.names c.in-Some.entry (entry_at entries.objects.now c.args.object c.args.place) e c.in-Some.ensures there in
    let won = lent_wins entries.names.now.names c.args.ranks.now entries.objects.now c.args.object c.args.place c.in-Some.entry c.in_ok-name.name c.rank.result c.of.result c.is_rank.result
    c.in-Some.ensures c.in_ok-name.was c.rank.ensures c.of.ensures c.is_rank.ensures e there in
    ap (λ (d : Definition). Some (record { definition = d; name = c.in_ok-name.name; flags = c.in-Some.entry.symbol.flags })) (c.definition_at.ensures e there)
    ∙ ap (λ (s : Symbol). Some (record { definition = told_definition e; name = c.in_ok-name.name; flags = s.flags })) shows.symbol
    ∙ sym (won ∙ ap (λ b. given b (record { definition = told_definition e; name = c.in_ok-name.name; flags = e.symbol.flags })) c.if-not-is_rank.false)
