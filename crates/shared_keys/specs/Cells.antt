-- The cells of foreign addresses, by the numbers of their imports.
use Rattle.std.specs.Prelude.{◌≡◌, ℕ, ◌==◌, nat_lt, Bool, true, false, not, ◌&&◌, ◌||◌, List, [], length, slice_get, slice_index_or, Option, Some, None, unwrap_or, bytes_eq, codes, if◌then◌else◌}
use Rattle.std.specs.List.{list_any}
use Rattle.link_keys.specs.link_program.linking_section.declared.symbol.SymbolKind.TheVariants.{Function, Datum}
use Rattle.link_keys.specs.link_program.linking_section.Flags.{kind_code}
use Rattle.link_keys.specs.link_program.wasm_types.declared.value.ValType.TheVariants.{I32}
use Rattle.link_keys.specs.link_program.index_layout.Numbers.{number_by}
use Rattle.link_keys.specs.link_program.name_rules.Entries.{ImportKey, SymbolType, of_global, same_import, same_symbol_type}
use Rattle.link_keys.specs.link_program.name_meanings.Kept.{cell_key}
use Rattle.link_keys.specs.link_program.declared.symbol.Symbol.{Symbol}
use Rattle.link_keys.specs.link_program.declared.symbol.Lead.{Lead}
use Rattle.link_keys.specs.link_program.declared.symbol.Lead.TheVariants.{Here, Import, Null, Nothing}

-- No import stands twice.
abbrev pub OneEach : List ImportKey → Type 0
OneEach imports = (i : ℕ) (k : ImportKey) → slice_get imports i ≡ Some k → number_by same_import imports k ≡ i

abbrev pub is_here_lead : Lead → Bool
is_here_lead (Here d) = true
is_here_lead (Import n) = false
is_here_lead Null = false
is_here_lead Nothing = false

abbrev pub is_function : Symbol → Bool
is_function s = kind_code s.kind == kind_code Function

abbrev pub is_datum : Symbol → Bool
is_datum s = kind_code s.kind == kind_code Datum

-- A reference asks for the cell of a foreign function or datum, unless it is a call.
abbrev pub asks_cell : ℕ → Symbol → Bool
asks_cell kind s = not (kind == 0) && not (is_here_lead s.lead) && (is_function s || is_datum s)

-- A cell is a global that may change (DynamicLinking.md).
abbrev pub is_cell_type : SymbolType → Bool
is_cell_type t = same_symbol_type t (of_global (record { kind = I32; var = true }))

-- The module, the field and the type of an import are those of the cell of a name.
abbrev pub agrees : Bool → List ℕ → List ℕ → SymbolType → List ℕ → Bool
agrees function module_name field t name = bytes_eq module_name (if function then codes "GOT.func" else codes "GOT.mem") && bytes_eq field name && is_cell_type t

abbrev pub name_at : List (List ℕ) → ℕ → List ℕ
name_at names n = slice_index_or names n []

-- The name has this number, and the import is its cell.
abbrev pub IsCellAt : List (List ℕ) → List ImportKey → Bool → ℕ → ℕ → Type 0
IsCellAt names imports function name number = (nat_lt name (length names) ≡ true) × (slice_get imports number ≡ Some (cell_key function (name_at names name)))

-- ---- of a symbol

-- whether its name has a number
abbrev pub is_numbered : List (List ℕ) → Option ℕ → Bool
is_numbered names None = false
is_numbered names (Some n) = nat_lt n (length names)

-- The import of its cell.
abbrev pub cell_named : List (List ℕ) → Symbol → ImportKey
cell_named names s = cell_key (is_function s) (name_at names (unwrap_or s.name 0))

-- whether that is one of the imports
abbrev pub is_known : List (List ℕ) → List ImportKey → Symbol → Bool
is_known names imports s = is_numbered names s.name && list_any (same_import (cell_named names s)) imports

-- Its number among them.
abbrev pub cell_number : List (List ℕ) → List ImportKey → Symbol → ℕ
cell_number names imports s = number_by same_import imports (cell_named names s)

abbrev pub IsCellOf : List (List ℕ) → List ImportKey → Symbol → ℕ → Type 0
IsCellOf names imports s number = (is_known names imports s ≡ true) × (number ≡ cell_number names imports s)
