-- The globals that code of a shared output names, as the data show them (DynamicLinking.md, "GOT.mem" and "GOT.func").
use Rattle.std.specs.Prelude.{ℕ, ◌==◌, nat_lt, Bool, true, false, not, ◌&&◌, ◌||◌, List, length, slice_get, slice_index_or, if◌then◌else◌, Option, Some, None, unwrap_or, is_some, option_and_then, bytes_eq, codes}
use Rattle.link_program.specs.wasm_types.declared.value.ValType.{ValType}
use Rattle.link_program.specs.wasm_types.declared.value.ValType.TheVariants as values
use Rattle.link_program.specs.linking_section.declared.symbol.SymbolKind.{SymbolKind}
use Rattle.link_program.specs.linking_section.declared.symbol.SymbolKind.TheVariants.{Function, GlobalVar}
use Rattle.link_program.specs.linking_section.declared.symbol.SymbolKind.TheVariants as kinds
use Rattle.link_program.specs.linking_section.Flags.{kind_code}
use Rattle.link_program.specs.made_symbols.declared.mode.Mode.TheVariants.{Shared}
use Rattle.link_program.specs.made_symbols.declared.roles.Role.{Role}
use Rattle.link_program.specs.made_symbols.declared.roles.Role.TheVariants.{CallCtors, ApplyDataRelocs, StackPointer, MemoryBase, TableBase, IndirectFunctionTable, HeapBase, DataEnd, GlobalBase, DsoHandle, StackLow, StackHigh, HeapEnd}
use Rattle.link_program.specs.made_symbols.Made.{made, made_role}
use Rattle.link_program.specs.name_rules.Entries.{ImportKey, SymbolType, of_function, of_global, untyped}
use Rattle.link_program.specs.declared.symbol.Lead.{Lead}
use Rattle.link_program.specs.declared.symbol.Lead.TheVariants as leads
use Rattle.link_program.specs.declared.symbol.Symbol.{Symbol}
use Rattle.link_program.specs.declared.keys.GotKey.TheVariants as cells
use Rattle.link_program.specs.declared.keys.GlobalKey.{GlobalKey}
use Rattle.link_program.specs.declared.keys.GlobalKey.TheVariants as globals
use Rattle.link_program.specs.Meant.{cell_meant}
use Rattle.link_layout.specs.Seen.{Looked}

-- ---- the linker's globals

-- Which of the linker's globals it is, in the order of its table.
abbrev pub global_place : Role → Option ℕ
global_place CallCtors = None
global_place ApplyDataRelocs = None
global_place StackPointer = Some 0
global_place MemoryBase = Some 1
global_place TableBase = Some 2
global_place IndirectFunctionTable = None
global_place HeapBase = None
global_place DataEnd = None
global_place GlobalBase = None
global_place DsoHandle = None
global_place StackLow = None
global_place StackHigh = None
global_place HeapEnd = None

abbrev pub made_place : ℕ → Option ℕ
made_place number = if nat_lt number (length (made Shared)) then global_place (made_role Shared number) else None

-- The import of a linker-made global, by the number of its symbol.
abbrev pub made_import : Looked → ℕ → Option ℕ
made_import k number = option_and_then (slice_get k.answers.made) (made_place number)

-- ---- cells

abbrev pub is_here : Lead → Bool
is_here (leads.Here d) = true
is_here (leads.Import n) = false
is_here leads.Null = false
is_here leads.Nothing = false

-- What has an address stands in a cell where the link doesn't define it.
abbrev pub may_have_cell : SymbolKind → Bool
may_have_cell kinds.Function = true
may_have_cell kinds.Datum = true
may_have_cell kinds.GlobalVar = false
may_have_cell kinds.Section = false
may_have_cell kinds.Table = false

abbrev pub has_cell : SymbolKind → Lead → Bool
has_cell kind lead = may_have_cell kind && not (is_here lead)

abbrev pub lead_import : Lead → Option ℕ
lead_import (leads.Here d) = None
lead_import (leads.Import n) = Some n
lead_import leads.Null = None
lead_import leads.Nothing = None

abbrev pub is_function : SymbolKind → Bool
is_function kind = kind_code kind == kind_code Function

-- The import of the cell of the symbol at a place: a function may mean another import, by which it is called; a datum means its cell.
abbrev pub cell_import : Looked → ℕ → SymbolKind → Lead → Option ℕ
cell_import k at kind lead = if is_function kind then slice_index_or k.answers.cells at None else lead_import lead

-- ---- the global that the symbol at a place means

abbrev pub global_var : Looked → Lead → GlobalKey
global_var k (leads.Here d) = if d.input == 0 then globals.Import (unwrap_or (made_import k d.place) 0) else globals.Own d.input d.index
global_var k (leads.Import n) = globals.Import n
global_var k leads.Null = globals.Got (cells.Null (kind_code GlobalVar))
global_var k leads.Nothing = globals.Got (cells.Null (kind_code GlobalVar))

abbrev pub global_or_cell : Looked → ℕ → SymbolKind → Lead → GlobalKey
global_or_cell k at kind lead =
    if kind_code kind == kind_code GlobalVar then global_var k lead
    else if has_cell kind lead then globals.Import (unwrap_or (cell_import k at kind lead) 0)
    else globals.Got (cell_meant (kind_code kind) lead)

-- ---- whether that can be told. It always can be in a link without clashes; that isn't proved, so it is tested

abbrev pub is_var_told : Looked → Lead → Bool
is_var_told k (leads.Here d) = not (d.input == 0) || is_some (made_import k d.place)
is_var_told k (leads.Import n) = true
is_var_told k leads.Null = true
is_var_told k leads.Nothing = true

abbrev pub is_i32 : ValType → Bool
is_i32 values.I32 = true
is_i32 v = false

abbrev pub is_cell_type : SymbolType → Bool
is_cell_type (of_function t) = false
is_cell_type (of_global g) = is_i32 g.kind && g.var
is_cell_type untyped = false

-- whether an import is the cell of a function or datum of this name
abbrev pub is_cell_key : Bool → List ℕ → ImportKey → Bool
is_cell_key function name key =
    bytes_eq key.module_name (if function then codes "GOT.func" else codes "GOT.mem") && bytes_eq key.field name && is_cell_type key.type

abbrev pub is_cell_of : Bool → Option (List ℕ) → Option ImportKey → Bool
is_cell_of function None key = false
is_cell_of function (Some name) None = false
is_cell_of function (Some name) (Some key) = is_cell_key function name key

-- whether the numbers of a name and of an import are those of a cell
abbrev pub is_cell : Looked → Bool → Option ℕ → Option ℕ → Bool
is_cell k function name number = is_cell_of function (option_and_then (slice_get k.names) name) (option_and_then (slice_get k.answers.imports) number)

abbrev pub is_told : Looked → ℕ → Symbol → Bool
is_told k at s =
    if kind_code s.kind == kind_code GlobalVar then is_var_told k s.lead
    else if has_cell s.kind s.lead then is_cell k (is_function s.kind) s.name (cell_import k at s.kind s.lead)
    else true
