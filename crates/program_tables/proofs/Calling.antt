-- The call of an init function.
use Rattle.std.proofs.Common.{◌≡◌, ℕ, ◌+◌, Bool, ◌||◌, ◌∙◌, List, ap, sym, Some}
use Rattle.std.specs.Prelude.{slice_get, option_and_then, pos}
use Rattle.link_program.specs.wl_base.Choice.{given}
use Rattle.link_program.specs.linking_section.declared.symbol.Symbol.{Symbol}
use Rattle.link_program.specs.linking_section.declared.init.InitFunc.{InitFunc}
use Rattle.link_program.specs.linking_section.Flags.{is_undefined}
use Rattle.link_program.specs.object_columns.Seen.{symbol_seen}
use Rattle.link_program.specs.object_file.declared.object.Object.{Object}
use Rattle.link_program.specs.name_rules.Entries.{InputSymbol}
use Rattle.link_program.specs.name_rules.Meanings.{is_init_use}
use Rattle.link_program.specs.name_entries.View.{entry_at}
use Rattle.link_program.specs.name_entries.Shown.{Shows}
use Rattle.link_program.specs.name_entries.declared.entry.EntryRef.{EntryRef}
use Rattle.link_program.specs.declared.named.Named.TheVariants as items
use Rattle.program_tables.specs.Views.{View, called_from}
use Rattle.program_tables.specs.Inits.{call_by, call_of}
use Rattle.program_tables.proofs.There.{row_at}

pub used_is : (r : EntryRef) (e : InputSymbol) (names : List (List ℕ)) → Shows names r e → r.defines || is_undefined (symbol_seen r.symbol) ≡ is_init_use e
used_is r e names shows =
    ap (λ d. d || is_undefined (symbol_seen r.symbol)) shows.defines ∙ ap (λ (s : Symbol). e.defines || is_undefined s) shows.symbol

pub called : (objects : List Object) (v : View) (i : InitFunc) (object : ℕ) (e : InputSymbol) (used : Bool) → slice_get objects object ≡ Some v.object → entry_at objects object i.symbol ≡ Some e → used ≡ is_init_use e
    → call_of objects v i ≡ given used (record { priority = i.priority; named = items.Symbol 0 0 (pos 0) (called_from v i.symbol) })
called objects v i object e used at there is =
    ap (option_and_then (call_by v i)) (ap (λ l. slice_get l i.symbol) (sym (row_at objects object v.object at)) ∙ there)
    ∙ ap (λ b. given b (record { priority = i.priority; named = items.Symbol 0 0 (pos 0) (called_from v i.symbol) })) (sym is)
