-- What the columns of names tell of the references of each name.
use Rattle.std.specs.Prelude.{◌≡◌, ℕ, ◌<◌, Bool, false, not, ◌&&◌, List, filter, flat_map, length, slice_index_or, Option, Some, None, option_map, option_and_then}
use Rattle.std.specs.List.{list_any}
use Rattle.name_entries.specs.linking_section.Flags.{is_weak, is_explicit}
use Rattle.name_entries.specs.object_file.declared.object.Object.{Object}
use Rattle.name_entries.specs.name_rules.Entries.{InputSymbol, ImportKey, symbols_of}
use Rattle.name_entries.specs.name_rules.Meanings.{least_import}
use Rattle.name_entries.specs.View.{entry_at, entry_number, is_number}
use Rattle.name_entries.specs.declared.lookups.Entries.{Entries}
use Rattle.name_meanings.specs.declared.columns.At.{At}
use Rattle.name_meanings.specs.declared.columns.Column.{Column}

-- the first value, or else the second
abbrev pub or_else : {A : Type 0} → Option A → Option A → Option A
or_else (Some a) b = Some a
or_else None b = b

-- the import that the symbol at a place stands on
abbrev pub import_at : List Object → At → Option ImportKey
import_at objects at = option_and_then (λ e. e.import) (entry_at objects at.object at.place)

-- where there is an import, a symbol that stands on it
abbrev pub StandsOn : List Object → Option At → Option ImportKey → Type 0
StandsOn objects at key = option_map (import_at objects) at ≡ option_map Some key

abbrev pub is_reference_of : List (List ℕ) → ℕ → InputSymbol → Bool
is_reference_of names number e = is_number number (entry_number names e) && not e.defines

-- The column of these references, all of one name.
pub record IsColumn (objects : List Object) (references : List InputSymbol) (c : Column) : Type 0 where
  pub explicit : StandsOn objects c.explicit (least_import (filter (λ r. is_explicit r.symbol) references))
  pub least : StandsOn objects c.least (least_import references)
  pub strong : c.strong ≡ list_any (λ r. not (is_weak r.symbol)) references

abbrev pub empty_column : Column
empty_column = record { explicit = None; least = None; strong = false }

-- The columns of all names, by number, of these symbols.
pub record AreColumns (names : List (List ℕ)) (objects : List Object) (seen : List InputSymbol) (columns : List Column) : Type 0 where
  pub count : length columns ≡ length names
  pub each : (i : ℕ) → i < length names → IsColumn objects (filter (is_reference_of names i) seen) (slice_index_or columns i empty_column)

abbrev pub AreColumnsOf : Entries → List InputSymbol → List Column → Type 0
AreColumnsOf entries seen columns = AreColumns entries.names.now.names entries.objects.now seen columns

-- The symbols of all objects, in order.
abbrev pub all_symbols : List Object → List InputSymbol
all_symbols objects = flat_map (symbols_of objects) objects
