-- The index spaces of an object: what is imported first, then what is defined (Core 2.5.1).
use Rattle.std.specs.Prelude.{◌≡◌, ℕ, ◌+◌, Bool, true, false, List, [], ◌++◌, length, map, slice_get, filter, filter_map, Option, Some, None}
use Rattle.object_parts.specs.wasm_types.declared.import.Import.{Import}
use Rattle.object_parts.specs.wasm_types.declared.import.ImportKind.{ImportKind}
use Rattle.object_parts.specs.wasm_types.declared.import.ImportKind.TheVariants as kinds
use Rattle.object_parts.specs.wasm_sections.declared.section.SectionSpan.{SectionSpan}
use Rattle.object_parts.specs.linking_section.declared.symbol.SymbolKind.{SymbolKind}
use Rattle.object_parts.specs.linking_section.declared.symbol.SymbolKind.TheVariants.{Function, Datum, GlobalVar, Section, Table}
use Rattle.object_parts.specs.declared.parts.Parts.{Parts}
use Rattle.object_rules.specs.declared.spaces.Counts.{Counts}
use Rattle.object_rules.specs.declared.spaces.ImportPlaces.{ImportPlaces}

abbrev pub is_function : ImportKind → Bool
is_function (kinds.Function t) = true
is_function (kinds.Table t) = false
is_function (kinds.Memory l) = false
is_function (kinds.GlobalVar g) = false

abbrev pub is_table : ImportKind → Bool
is_table (kinds.Function t) = false
is_table (kinds.Table t) = true
is_table (kinds.Memory l) = false
is_table (kinds.GlobalVar g) = false

abbrev pub is_global : ImportKind → Bool
is_global (kinds.Function t) = false
is_global (kinds.Table t) = false
is_global (kinds.Memory l) = false
is_global (kinds.GlobalVar g) = true

-- Whether an import is what a symbol of this kind names by an index.
abbrev pub is_of : SymbolKind → ImportKind → Bool
is_of Function kind = is_function kind
is_of Datum kind = false
is_of GlobalVar kind = is_global kind
is_of Section kind = false
is_of Table kind = is_table kind

-- The imports of one kind, in their order: an index of this kind that is below their number is the
-- place of one of them.
abbrev pub imports_of : SymbolKind → List Import → List Import
imports_of kind imports = filter (λ i. is_of kind i.kind) imports

-- The type index of an imported function.
abbrev pub imported_type : ImportKind → Option ℕ
imported_type (kinds.Function t) = Some t
imported_type (kinds.Table t) = None
imported_type (kinds.Memory l) = None
imported_type (kinds.GlobalVar g) = None

-- The type index of each function, by the function's index.
abbrev pub function_types : Parts → List ℕ
function_types parts = filter_map (λ i. imported_type i.kind) parts.imports ++ parts.functions

-- How many there are of each. All sections are counted, custom ones too.
abbrev pub counts_of : List SectionSpan → Parts → Counts
counts_of all parts = record {
  types = length parts.types;
  imported_functions = length (imports_of Function parts.imports);
  functions = length (imports_of Function parts.imports) + length parts.functions;
  imported_globals = length (imports_of GlobalVar parts.imports);
  globals = length (imports_of GlobalVar parts.imports) + length parts.globals;
  tables = length (imports_of Table parts.imports);
  segments = length parts.segments;
  sections = length all;
}

-- ---- finding an import by its index

abbrev pub places_in : ImportPlaces → SymbolKind → List ℕ
places_in p Function = p.functions
places_in p Datum = []
places_in p GlobalVar = p.globals
places_in p Section = []
places_in p Table = p.tables

-- At these places among all imports stand those of one kind, in their order.
abbrev pub HoldPlaces : List Import → SymbolKind → List ℕ → Type 0
HoldPlaces imports kind places = map (slice_get imports) places ≡ map (λ i. Some i) (imports_of kind imports)

-- The same for each kind.
abbrev pub ArePlaces : List Import → ImportPlaces → Type 0
ArePlaces imports p = (kind : SymbolKind) → HoldPlaces imports kind (places_in p kind)
