-- What lent entries and types tell.
use Rattle.std.specs.Prelude.{◌≡◌, ℕ, List, if◌then◌else◌, Option, Some, None}
use Rattle.name_rules.specs.object_file.linking_section.declared.symbol.Symbol.{Symbol}
use Rattle.name_rules.specs.object_file.linking_section.Flags.{is_weak}
use Rattle.name_rules.specs.object_file.object_columns.Seen.{symbol_seen, func_type_seen}
use Rattle.link_names.specs.Numbered.{number_seen}
use Rattle.name_rules.specs.Entries.{InputSymbol, SymbolType, of_function, of_global, untyped}
use Rattle.name_entries.specs.View.{entry_number}
use Rattle.name_entries.specs.declared.symbol_rows.EntryRow.{EntryRow}
use Rattle.name_entries.specs.declared.entry.EntryRef.{EntryRef}
use Rattle.name_entries.specs.declared.entry.TypeRef.{TypeRef}
use Rattle.name_entries.specs.declared.entry.TypeRef.TheVariants as types

abbrev pub type_seen : TypeRef → SymbolType
type_seen (types.Function t) = of_function (func_type_seen t)
type_seen (types.GlobalVar t) = of_global t
type_seen types.Untyped = untyped

-- A lent entry tells what the entry is, but for its type and its import, and the number of its name.
pub record Shows (names : List (List ℕ)) (r : EntryRef) (e : InputSymbol) : Type 0 where
  pub input : r.input ≡ e.input
  pub place : r.place ≡ e.place
  pub symbol : symbol_seen r.symbol ≡ e.symbol
  pub number : r.number ≡ entry_number names e
  pub defines : r.defines ≡ e.defines
  pub class : r.class ≡ e.class
  pub index : r.index ≡ e.index

-- The same, where there is one.
abbrev pub AreShown : List (List ℕ) → Option EntryRef → Option InputSymbol → Type 0
AreShown names (Some r) (Some e) = Shows names r e
AreShown names None None = Unit {0}
AreShown names r e = ⊥

-- A lent entry tells what a row tells of this symbol at a place.
pub record IsEntryBy (row : EntryRow) (at : ℕ) (s : Symbol) (r : EntryRef) : Type 0 where
  pub input : r.input ≡ row.input
  pub place : r.place ≡ at
  pub symbol : symbol_seen r.symbol ≡ s
  pub number : r.number ≡ number_seen row.number
  pub defines : r.defines ≡ row.defines
  pub class : r.class ≡ (if is_weak s then 1 else 0)
  pub index : r.index ≡ row.index
