-- What is noted of the references of live parts, one after another.
use Rattle.std.specs.Prelude.{ℕ, ◌==◌, nat_eq, Bool, true, false, not, ◌&&◌, ◌||◌, List, [], ◌∷◌, ◌++◌, slice_set, slice_index_or, fold, replicate, if◌then◌else◌, Option, Some, None, option_map}
use Rattle.std.specs.List.{list_any}
use Rattle.indexmap.specs.IndexSet.{insert_key}
use Rattle.link_program.specs.linking_section.declared.symbol.SymbolKind.{SymbolKind}
use Rattle.link_program.specs.linking_section.declared.symbol.SymbolKind.TheVariants.{Function as FunctionKind, GlobalVar}
use Rattle.link_program.specs.linking_section.Flags.{kind_code}
use Rattle.link_program.specs.declared.symbol.Symbol.{Symbol}
use Rattle.link_program.specs.declared.symbol.Lead.{Lead}
use Rattle.link_program.specs.declared.symbol.Lead.TheVariants.{Here, Import, Null, Nothing}
use Rattle.link_program.specs.declared.keys.FunctionKey.{FunctionKey}
use Rattle.link_program.specs.declared.keys.FunctionKey.TheVariants as functions
use Rattle.link_program.specs.declared.keys.GotKey.{GotKey}
use Rattle.link_program.specs.declared.named.Named.{Named}
use Rattle.link_program.specs.declared.named.Named.TheVariants as names
use Rattle.link_program.specs.declared.program.Tables.{Tables}
use Rattle.link_program.specs.Meant.{function_of, cell_meant}
use Rattle.link_program.specs.Seen.{no_symbol}
use Rattle.link_keys.specs.declared.codes.Code.{Code}
use Rattle.link_keys.specs.Codes.{same_code, function_code, got_code}
use Rattle.link_program.specs.Look.{part_at, row_at}
use Rattle.link_keys.specs.LiveRefs.{is_code}

-- ---- what a reference asks for

-- The import that it names.
abbrev pub import_named : Lead → Option ℕ
import_named (Here d) = None
import_named (Import n) = Some n
import_named Null = None
import_named Nothing = None

abbrev pub is_null_lead : Lead → Bool
is_null_lead (Here d) = false
is_null_lead (Import n) = false
is_null_lead Null = true
is_null_lead Nothing = false

abbrev pub where_so : {A : Type 0} → Bool → Option A → Option A
where_so true o = o
where_so false o = None

-- The name of the null function that it calls.
abbrev pub stub_called : ℕ → Symbol → Option ℕ
stub_called kind s = where_so ((kind == 0) && is_null_lead s.lead) s.name

-- The function that it means. Null has no slot.
abbrev pub function_meant : Lead → Option FunctionKey
function_meant (Here d) = Some (function_of d)
function_meant (Import n) = Some (functions.Import n)
function_meant Null = None
function_meant Nothing = None

-- The relocation types 1, 2 and 12 ask for a slot, and type 7 for the cell that holds a function's slot.
abbrev pub asks_slot : ℕ → SymbolKind → Bool
asks_slot kind symbol = (kind == 1) || (kind == 2) || (kind == 12) || ((kind == 7) && (kind_code symbol == kind_code FunctionKind))

-- The function whose slot it takes.
abbrev pub function_taken : ℕ → Symbol → Option FunctionKey
function_taken kind s = where_so (asks_slot kind s.kind) (function_meant s.lead)

-- The relocation type 7 reads a global, or the cell of the address of a function or datum.
abbrev pub reads_cell : ℕ → SymbolKind → Bool
reads_cell kind symbol = (kind == 7) && not (kind_code symbol == kind_code GlobalVar)

-- The cell that it reads, where it stands in code.
abbrev pub cell_read : Bool → ℕ → Symbol → Option GotKey
cell_read code kind s = where_so (code && reads_cell kind s.kind) (Some (cell_meant (kind_code s.kind) s.lead))

-- ---- what is noted

pub record Noted : Type 0 where
  pub imports : List Bool  -- by the number of an import whether a reference names it
  pub stubs : List Bool  -- by the number of a name whether a reference calls its null function
  pub taken : List Code  -- the codes of the functions that have slots
  pub cells : List GotKey  -- the cells of addresses that code reads, in first-seen order
  pub cell_codes : List Code  -- and their codes
  pub windows : List ℕ  -- the numbers of the types that windows name, in first-seen order

abbrev pub is_at : ℕ → Option ℕ → Bool
is_at i None = false
is_at i (Some n) = n == i

abbrev pub flagged : List Bool → Option ℕ → List Bool
flagged flags None = flags
flagged flags (Some n) = slice_set flags n true

abbrev pub with_taken : Noted → FunctionKey → Noted
with_taken m key = record m { taken = insert_key same_code m.taken (function_code key) }

abbrev pub with_read : Noted → GotKey → Noted
with_read m key = record m {
  cells = if list_any (same_code (got_code key)) m.cell_codes then m.cells else m.cells ++ key ∷ [];
  cell_codes = insert_key same_code m.cell_codes (got_code key);
}

abbrev pub taking : Noted → Option FunctionKey → Noted
taking m None = m
taking m (Some key) = with_taken m key

abbrev pub reading : Noted → Option GotKey → Noted
reading m None = m
reading m (Some key) = with_read m key

abbrev pub flagging : ℕ → Symbol → Noted → Noted
flagging kind s m = record m { imports = flagged m.imports (import_named s.lead); stubs = flagged m.stubs (stub_called kind s) }

abbrev pub noted_ref : Bool → ℕ → Symbol → Noted → Noted
noted_ref code kind s m = reading (taking (flagging kind s m) (function_taken kind s)) (cell_read code kind s)

abbrev pub noted_number : ℕ → Noted → Noted
noted_number number m = record m { windows = insert_key nat_eq m.windows number }

-- What a part names is noted, by the symbols.
abbrev pub noted : List Symbol → Bool → Noted → Named → Noted
noted symbols code m (names.Symbol kind place addend symbol) = noted_ref code kind (slice_index_or symbols symbol no_symbol) m
noted symbols code m (names.Type place number) = noted_number number m

-- What a live part names is noted.
abbrev pub noted_part : Tables → Noted → ℕ → Noted
noted_part t m n = fold (noted t.symbols (is_code (part_at t n))) m (row_at t n)

-- What all live parts name is noted.
abbrev pub noted_parts : Tables → Noted → List ℕ → Noted
noted_parts t m live = fold (noted_part t) m live

-- Nothing, of so many imports and names.
abbrev pub nothing_noted : ℕ → ℕ → Noted
nothing_noted imports names = record { imports = replicate imports false; stubs = replicate names false; taken = []; cells = []; cell_codes = []; windows = [] }
