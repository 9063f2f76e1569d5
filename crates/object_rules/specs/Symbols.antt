-- Symbols name what is there, and no name that other objects see is given twice (Linking.md,
-- "Symbol Table Subsection").
use Rattle.std.specs.Prelude.{ℕ, ◌+◌, nat_lt, nat_le, Bool, true, false, not, ◌&&◌, ◌||◌, List, slice_get, filter_map, Option, Some, None, if◌then◌else◌}
use Rattle.std.specs.List.{list_all}
use Rattle.std.specs.Str.{bytes_eq}
use Rattle.object_parts.specs.wasm_types.declared.import.Import.{Import}
use Rattle.object_parts.specs.linking_section.declared.symbol.Symbol.{Symbol}
use Rattle.object_parts.specs.linking_section.declared.symbol.SymbolKind.{SymbolKind}
use Rattle.object_parts.specs.linking_section.declared.symbol.SymbolKind.TheVariants.{Function, Datum, GlobalVar, Section, Table}
use Rattle.object_parts.specs.linking_section.Flags.{is_local, is_undefined}
use Rattle.object_parts.specs.declared.parts.DataPart.{DataPart}
use Rattle.object_parts.specs.declared.parts.Parts.{Parts}
use Rattle.object_rules.specs.declared.spaces.Counts.{Counts}
use Rattle.object_rules.specs.Spaces.{imports_of}
use Rattle.object_rules.specs.Differ.{all_differ}

-- ---- what is named

-- An index is in range, and the symbol is undefined exactly where it is an import.
abbrev pub stands : Symbol → ℕ → ℕ → Bool
stands s imports all = nat_lt s.index all && (if nat_lt s.index imports then is_undefined s else not (is_undefined s))

-- A defined datum lies in its segment.
abbrev pub lies_in : Symbol → Option DataPart → Bool
lies_in s None = false
lies_in s (Some d) = nat_le (s.offset + s.size) d.span.len

abbrev pub symbol_stands : Counts → List DataPart → Symbol → SymbolKind → Bool
symbol_stands counts segments s Function = stands s counts.imported_functions counts.functions
symbol_stands counts segments s Datum = is_undefined s || lies_in s (slice_get segments s.index)
symbol_stands counts segments s GlobalVar = stands s counts.imported_globals counts.globals
symbol_stands counts segments s Section = nat_lt s.index counts.sections
symbol_stands counts segments s Table = stands s counts.tables counts.tables

abbrev pub symbols_stand : Counts → Parts → List Symbol → Bool
symbols_stand counts parts symbols = list_all (λ s. symbol_stands counts parts.segments s s.kind) symbols

-- ---- names

abbrev pub field_of : Option Import → Option (List ℕ)
field_of None = None
field_of (Some i) = Some i.field

-- The field of the import that a symbol names, where it names one.
abbrev pub import_name : List Import → Symbol → Option (List ℕ)
import_name imports s = field_of (slice_get (imports_of s.kind imports) s.index)

abbrev pub own_or : Option (List ℕ) → Option (List ℕ) → Option (List ℕ)
own_or (Some name) other = Some name
own_or None other = other

-- The name of a symbol: its own, or that of the import that it names. A section symbol has none.
abbrev pub name_of : List Import → Symbol → Option (List ℕ)
name_of imports s = own_or s.name (import_name imports s)

abbrev pub is_section : SymbolKind → Bool
is_section Function = false
is_section Datum = false
is_section GlobalVar = false
is_section Section = true
is_section Table = false

-- Whether other objects see the name: it isn't that of a defined LOCAL symbol, nor of a section.
abbrev pub is_seen : Symbol → Bool
is_seen s = not (is_section s.kind) && (is_undefined s || not (is_local s))

abbrev pub seen_name : List Import → Symbol → Option (List ℕ)
seen_name imports s = if is_seen s then name_of imports s else None

abbrev pub names_differ : List Import → List Symbol → Bool
names_differ imports symbols = all_differ bytes_eq (filter_map (seen_name imports) symbols)
