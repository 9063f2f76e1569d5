-- The cells of foreign addresses, by the numbers of their imports, as the data tell them.
use Rattle.std.specs.Prelude.{ℕ, ◌+◌, ◌==◌, Bool, true, false, not, ◌&&◌, ◌||◌, List, [], ◌∷◌, slice_get, slice_index_or, if◌then◌else◌, Option, Some, None, unwrap_or}
use Rattle.link_program.specs.wasm_types.declared.value.ValType.TheVariants.{I32}
use Rattle.link_program.specs.linking_section.declared.symbol.SymbolKind.TheVariants.{Function, Datum, GlobalVar}
use Rattle.link_program.specs.linking_section.Flags.{kind_code}
use Rattle.link_program.specs.name_rules.Entries.{ImportKey, SymbolType, of_global, same_import}
use Rattle.link_program.specs.name_meanings.Kept.{cell_key}
use Rattle.link_program.specs.declared.symbol.Lead.{Lead}
use Rattle.link_program.specs.declared.symbol.Lead.TheVariants as leads
use Rattle.link_program.specs.declared.symbol.Symbol.{Symbol}

abbrev pub is_function : Symbol → Bool
is_function s = kind_code s.kind == kind_code Function

abbrev pub is_datum : Symbol → Bool
is_datum s = kind_code s.kind == kind_code Datum

abbrev pub is_global : Symbol → Bool
is_global s = kind_code s.kind == kind_code GlobalVar

-- What has an address.
abbrev pub is_addressed : Symbol → Bool
is_addressed s = is_function s || is_datum s

abbrev pub import_of : Lead → ℕ
import_of (leads.Here d) = 0
import_of (leads.Import n) = n
import_of leads.Null = 0
import_of leads.Nothing = 0

-- The number of the import of the cell of a foreign function or datum, by the cells of functions and the symbol's place.
abbrev pub cell_at : List (Option ℕ) → ℕ → Symbol → ℕ
cell_at cells at s = if is_function s then unwrap_or (slice_index_or cells at None) 0 else import_of s.lead

-- ---- whether these numbers are those of cells

abbrev pub cell_type : SymbolType
cell_type = of_global (record { kind = I32; var = true })

abbrev pub name_at : List (List ℕ) → Option ℕ → Option (List ℕ)
name_at names None = None
name_at names (Some n) = slice_get names n

-- whether an import is the cell of a function or datum of this name
abbrev pub is_cell : Bool → Option (List ℕ) → Option ImportKey → Bool
is_cell function None key = false
is_cell function (Some name) None = false
is_cell function (Some name) (Some key) = same_import key (cell_key function name)

module _ (names : List (List ℕ)) (imports : List ImportKey) (cells : List (Option ℕ)) where
  abbrev pub leads_to_cell : ℕ → Symbol → Lead → Bool
  leads_to_cell at s (leads.Here d) = true
  leads_to_cell at s (leads.Import n) = not (is_addressed s) || is_cell (is_function s) (name_at names s.name) (slice_get imports (cell_at cells at s))
  leads_to_cell at s leads.Null = true
  leads_to_cell at s leads.Nothing = true

  -- whether the cell that is told of a symbol, if it is a foreign function or datum, is its cell
  abbrev pub tells_cell : ℕ → Symbol → Bool
  tells_cell at s = leads_to_cell at s s.lead

  -- the same of each symbol from a place on
  abbrev pub all_tell : ℕ → List Symbol → Bool
  all_tell at [] = true
  all_tell at (s ∷ ss) = tells_cell at s && all_tell (at + 1) ss
