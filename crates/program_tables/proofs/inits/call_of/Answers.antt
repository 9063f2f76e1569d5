use Rattle.std.proofs.Common.{ℕ, Some, sym, ap, ◌∙◌}
use Rattle.std.specs.Prelude.{pos}
use Rattle.link_program.specs.wl_base.Choice.{given}
use Rattle.link_program.specs.name_entries.View.{entry_at}
use Rattle.link_program.specs.declared.named.Named.TheVariants as items
use Rattle.program_tables.specs.declared.inits.InitCall.{InitCall}
use Rattle.program_tables.specs.Views.{view_seen, called_from}
use Rattle.program_tables.proofs.Defining.{shown_entry, symbol_within}
use Rattle.program_tables.proofs.Calling.{used_is, called}
use Rattle.program_tables.proofs.inits.call_of.Goals as goal

pub called-requires-clause-there : goal.called-requires-clause-there
called-requires-clause-there c =
    let entries = c.args.entries in
    let (e, there, shows) = shown_entry entries.names.now.names c.in_ok-entry.entry (entry_at entries.objects.now c.args.object c.args.init.symbol) c.in_ok-entry.ensures in
    symbol_within entries.objects.now c.args.object c.args.init.symbol c.args.view.from.now e c.requires.there there

pub returns-then-not-is_used : goal.returns-then-not-is_used
returns-then-not-is_used c =
    let entries = c.args.entries in
    let (e, there, shows) = shown_entry entries.names.now.names c.in_ok-entry.entry (entry_at entries.objects.now c.args.object c.args.init.symbol) c.in_ok-entry.ensures in
    sym (called entries.objects.now (view_seen c.args.view) c.args.init c.args.object e c.is_used.result c.requires.there there
    (c.is_used.ensures ∙ used_is c.in_ok-entry.entry e _ shows) ∙ ap (λ b. given b (record { priority = c.args.init.priority; named = items.Symbol 0 0 (pos 0) (called_from (view_seen c.args.view) c.args.init.symbol) })) c.if-not-is_used.true)

pub returns : goal.returns
returns c =
    let call : ℕ → InitCall = λ n. record { priority = c.args.init.priority; named = items.Symbol 0 0 (pos 0) n } in
    let entries = c.args.entries in
    let (e, there, shows) = shown_entry entries.names.now.names c.in_ok-entry.entry (entry_at entries.objects.now c.args.object c.args.init.symbol) c.in_ok-entry.ensures in
    sym (called entries.objects.now (view_seen c.args.view) c.args.init c.args.object e c.is_used.result c.requires.there there
    (c.is_used.ensures ∙ used_is c.in_ok-entry.entry e _ shows) ∙ ap (λ b. given b (record { priority = c.args.init.priority; named = items.Symbol 0 0 (pos 0) (called_from (view_seen c.args.view) c.args.init.symbol) })) c.if-not-is_used.false ∙ ap (λ n. Some (call n)) (sym c.called.ensures))
