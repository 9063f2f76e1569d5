-- The symbols of names that no object defines, with the imports that they take.
use Rattle.std.specs.Prelude.{ℕ, ◌+◌, ◌==◌, Bool, List, [], ◌∷◌, filter, length, if◌then◌else◌, slice_index_or, Option, Some, None, option_map, option_and_then}
use Rattle.std.specs.Option.{option_or}
use Rattle.partial_symbols.specs.link_program.wl_base.Choice.{first_some}
use Rattle.partial_symbols.specs.link_program.linking_section.Flags.{is_explicit, kind_code}
use Rattle.partial_symbols.specs.link_program.linking_section.declared.symbol.SymbolKind.{SymbolKind}
use Rattle.partial_symbols.specs.link_program.object_file.declared.object.Object.{Object}
use Rattle.partial_symbols.specs.link_program.name_rules.Entries.{InputSymbol, ImportKey, name_of}
use Rattle.partial_symbols.specs.link_program.name_rules.Meanings.{least_import}
use Rattle.partial_symbols.specs.link_program.name_entries.View.{entry_number}
use Rattle.partial_symbols.specs.link_program.link_rules.Program.{Program}
use Rattle.partial_symbols.specs.partial_rules.Partial.{name_references}
use Rattle.partial_symbols.specs.declared.facts.At.{At}
use Rattle.partial_symbols.specs.declared.facts.Spot.{Spot}
use Rattle.partial_symbols.specs.Standing.{Sight, column_at}
use Rattle.partial_symbols.specs.Known.{symbol_there, import_there}
use Rattle.partial_imports.specs.declared.opens.Open.{Open}

-- ---- as they are found

abbrev pub open_with : Sight → At → InputSymbol → ℕ → Option Spot → Option Open
open_with v at e n (Some w) = None
open_with v at e n None = Some (record { at = at; kind = e.symbol.kind; import = option_or (column_at v n).explicit_import (column_at v n).import })

abbrev pub open_by : Sight → At → InputSymbol → Option ℕ → Option Open
open_by v at e None = None
open_by v at e (Some n) = open_with v at e n (slice_index_or v.winners n None)

abbrev pub open_at : Sight → List (List ℕ) → List Object → At → Option Open
open_at v names objects at = option_and_then (λ e. open_by v at e (entry_number names e)) (symbol_there objects at)

-- ---- what they tell

-- A symbol, its kind, and the import that it takes, where it is that of a reference.
pub record SeenOpen : Type 0 where
  pub symbol : Option InputSymbol
  pub kind : SymbolKind
  pub import : Option (Option ImportKey)

abbrev pub open_seen : List Object → Open → SeenOpen
open_seen objects o = record { symbol = symbol_there objects o.at; kind = o.kind; import = option_map (import_there objects) o.import }

abbrev pub told_open : Program → InputSymbol → SeenOpen
told_open p e = record {
  symbol = Some e;
  kind = e.symbol.kind;
  import = option_map Some (first_some
      (least_import (filter (λ r. is_explicit r.symbol) (name_references p (name_of e))) ∷ least_import (name_references p (name_of e)) ∷ []));
}

-- ---- how many there are of a kind

abbrev pub is_of : SymbolKind → SymbolKind → Bool
is_of kind other = kind_code other == kind_code kind

abbrev pub count_in : SymbolKind → List Open → ℕ
count_in kind opens = length (filter (λ o. is_of kind o.kind) opens)

abbrev pub one_more : ℕ → Bool → ℕ
one_more n b = if b then n + 1 else n
