-- What a sight and the symbols that stand tell of a program.
use Rattle.std.specs.Prelude.{◌≡◌, ℕ, not, ◌&&◌, List, map, filter, length, position, slice_get, slice_index_or, Option, Some, None, option_map, option_and_then}
use Rattle.std.specs.List.{list_any}
use Rattle.link_program.specs.linking_section.Flags.{is_weak, is_explicit}
use Rattle.link_program.specs.object_file.declared.object.Object.{Object}
use Rattle.link_program.specs.name_rules.Entries.{InputSymbol, ImportKey, is_entry, is_named, same_entry}
use Rattle.link_program.specs.name_rules.Meanings.{least_import}
use Rattle.link_program.specs.name_entries.View.{entry_at}
use Rattle.link_program.specs.link_rules.Program.{Program}
use Rattle.link_program.specs.link_rules.Marks.{all_symbols}
use Rattle.partial_rules.specs.Partial as partial
use Rattle.partial_symbols.specs.declared.facts.At.{At}
use Rattle.partial_symbols.specs.declared.facts.Spot.{Spot}
use Rattle.partial_symbols.specs.Standing.{Sight, Stood, column_at, is_referenced}

abbrev pub entry_spot : InputSymbol → Spot
entry_spot e = record { input = e.input; place = e.place }

-- the symbol that stands at a place, and the import that it stands on
abbrev pub symbol_there : List Object → At → Option InputSymbol
symbol_there objects at = entry_at objects at.object at.place

abbrev pub import_there : List Object → At → Option ImportKey
import_there objects at = option_and_then (λ e. e.import) (symbol_there objects at)

-- By the number of each name: its winner where an object defines it, its least entry in an object, whether anything refers to it,
-- and of its references the least import, the least import with EXPLICIT_NAME, whether one isn't WEAK and whether one has EXPLICIT_NAME.
pub record IsSight (p : Program) (names : List (List ℕ)) (v : Sight) : Type 0 where
  pub winner : (n : ℕ) (name : List ℕ) → slice_get names n ≡ Some name → slice_index_or v.winners n None ≡ option_map entry_spot (partial.object_winner p name)
  pub least : (n : ℕ) (name : List ℕ) → slice_get names n ≡ Some name → (column_at v n).least ≡ option_map entry_spot (partial.least_in_object p name)
  pub referenced : (n : ℕ) (name : List ℕ) → slice_get names n ≡ Some name → is_referenced v n ≡ partial.is_referenced p name
  pub strong : (n : ℕ) (name : List ℕ) → slice_get names n ≡ Some name → (column_at v n).strong ≡ list_any (λ r. not (is_weak r.symbol)) (partial.name_references p name)
  pub explicit : (n : ℕ) (name : List ℕ) → slice_get names n ≡ Some name → (column_at v n).explicit ≡ list_any (λ r. is_explicit r.symbol) (partial.name_references p name)
  pub import : (n : ℕ) (name : List ℕ) → slice_get names n ≡ Some name
      → option_map (import_there p.objects) (column_at v n).import ≡ option_map Some (least_import (partial.name_references p name))
  pub explicit_import : (n : ℕ) (name : List ℕ) → slice_get names n ≡ Some name
      → option_map (import_there p.objects) (column_at v n).explicit_import ≡ option_map Some (least_import (filter (λ r. is_explicit r.symbol) (partial.name_references p name)))

-- The symbols of the object, by input and place; by the number of a name the number of the symbol that stands for it; and of each
-- symbol of the loaded objects its own number, where it stands there.
pub record AreStanding (p : Program) (names : List (List ℕ)) (s : Stood) : Type 0 where
  pub count : length s.of_symbols ≡ length (all_symbols p)
  pub symbols : map (symbol_there p.objects) s.symbols ≡ map Some (partial.standing p)
  pub of_names : (n : ℕ) (name : List ℕ) → slice_get names n ≡ Some name
      → slice_index_or s.of_names n None ≡ position (λ x. is_entry x && is_named name x) (partial.standing p)
  pub of_symbols : (k : ℕ) (e : InputSymbol) → slice_get (all_symbols p) k ≡ Some e
      → slice_index_or s.of_symbols k None ≡ position (same_entry e) (partial.standing p)
