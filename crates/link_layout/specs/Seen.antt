-- What stands in windows, as the data show it.
use Rattle.std.specs.Prelude.{◌≡◌, ◌<◌, ◌^◌, ℕ, ◌+◌, ◌==◌, Bool, true, false, List, [], map, filter, drop, length, slice_index_or, if◌then◌else◌, Option, Some, None, All, ℤ, pos}
use Rattle.link_program.specs.linking_section.declared.symbol.SymbolKind.{SymbolKind}
use Rattle.link_program.specs.linking_section.declared.symbol.SymbolKind.TheVariants.{GlobalVar}
use Rattle.link_program.specs.linking_section.declared.symbol.SymbolKind.TheVariants as kinds
use Rattle.link_program.specs.linking_section.Flags.{kind_code}
use Rattle.link_program.specs.mark_bits.declared.chunk.Chunk.{Chunk}
use Rattle.link_program.specs.index_layout.Numbers.{number_by}
use Rattle.link_program.specs.made_symbols.declared.mode.Mode.{Mode}
use Rattle.link_program.specs.name_meanings.Means.{Answers}
use Rattle.link_program.specs.reloc_apply.declared.window.Form.TheVariants.{Unsigned5}
use Rattle.link_program.specs.reloc_apply.declared.window.Window.{Window}
use Rattle.link_program.specs.link_rules.Program.{chunk_at}
use Rattle.link_program.specs.link_rules.Marks.{by_mode}
use Rattle.link_program.specs.link_rules.Values.{Asks, a_function, a_slot, an_address, a_global, a_table, asks, form_of, made_data}
use Rattle.link_program.specs.declared.symbol.Definition.{Definition}
use Rattle.link_program.specs.declared.symbol.Symbol.{Symbol}
use Rattle.link_program.specs.declared.symbol.Lead.{Lead}
use Rattle.link_program.specs.declared.symbol.Lead.TheVariants as leads
use Rattle.link_program.specs.declared.keys.FunctionKey.{FunctionKey}
use Rattle.link_program.specs.declared.keys.FunctionKey.TheVariants as functions
use Rattle.link_program.specs.declared.keys.GotKey.TheVariants as cells
use Rattle.link_program.specs.declared.keys.GlobalKey.{GlobalKey}
use Rattle.link_program.specs.declared.keys.GlobalKey.TheVariants as globals
use Rattle.link_program.specs.declared.named.Named.{Named}
use Rattle.link_program.specs.declared.named.Named.TheVariants as names
use Rattle.link_program.specs.declared.program.Tables.{Tables}
use Rattle.link_program.specs.Look.{chunk_number}
use Rattle.link_program.specs.Meant.{index_of, function_of, function_meant, cell_meant}
use Rattle.link_program.specs.Seen.{no_symbol}
use Rattle.link_program.specs.Keys.{same_function_key, same_global_key}
use Rattle.link_numbers.specs.Numbered.{Numbered, is_import}
use Rattle.link_layout.specs.declared.placing.Placed.{Placed}

-- What is looked up: which output is made, all numbers, the tables, where segments stand, the names, and what symbols mean.
pub record Looked : Type 0 where
  pub mode : Mode
  pub numbers : Numbered
  pub tables : Tables
  pub placed : Placed
  pub names : List (List ℕ)
  pub answers : Answers

-- ---- addresses

-- The address of the part of a number; where there is none, that of the first segment.
abbrev pub column_at : Placed → Option ℕ → ℕ
column_at d None = slice_index_or d.places.addresses 0 0
column_at d (Some n) = slice_index_or d.addresses n 0

-- In a shared output addresses count from `__memory_base`, where the linker's one datum is.
abbrev pub address_of : Looked → Definition → ℕ
address_of k d =
    if d.input == 0 then slice_index_or (by_mode k.mode (made_data k.placed.places) []) d.place 0
    else column_at k.placed (chunk_number k.tables.chunks (chunk_at d.input 1 d.index)) + d.offset

-- ---- keys

abbrev pub global_meant : ℕ → Lead → GlobalKey
global_meant kind (leads.Here d) = globals.Own d.input (index_of d)
global_meant kind (leads.Import n) = globals.Import n
global_meant kind leads.Null = globals.Got (cells.Null kind)
global_meant kind leads.Nothing = globals.Got (cells.Null kind)

-- The global that a symbol means, or the cell of the address of a function or datum.
abbrev pub global_named : ℕ → Lead → GlobalKey
global_named kind lead = if kind == kind_code GlobalVar then global_meant kind lead else globals.Got (cell_meant kind lead)

-- ---- numbers

abbrev pub slot_of : Looked → FunctionKey → ℕ
slot_of k f = k.numbers.first_slot + number_by same_function_key k.numbers.slots f

abbrev pub slot_meant : Looked → Option ℕ → Lead → ℕ
slot_meant k name (leads.Here d) = slot_of k (function_of d)
slot_meant k name (leads.Import n) = slot_of k (functions.Import n)
slot_meant k name leads.Null = 0
slot_meant k name leads.Nothing = 0

abbrev pub address_meant : Looked → Lead → ℕ
address_meant k (leads.Here d) = address_of k d
address_meant k (leads.Import n) = 0
address_meant k leads.Null = 0
address_meant k leads.Nothing = 0

-- ---- windows

abbrev pub target_of : Looked → Symbol → Asks → ℕ
target_of k s a_function = number_by same_function_key k.numbers.functions (function_meant s.name s.lead)
target_of k s a_slot = slot_meant k s.name s.lead
target_of k s an_address = address_meant k s.lead
target_of k s a_global = number_by same_global_key k.numbers.globals (global_named (kind_code s.kind) s.lead)
target_of k s a_table = 0

-- The addend of a null datum isn't added.
abbrev pub addend_meant : Lead → ℤ → ℤ
addend_meant (leads.Here d) addend = addend
addend_meant (leads.Import n) addend = addend
addend_meant leads.Null addend = pos 0
addend_meant leads.Nothing addend = addend

abbrev pub is_address : Asks → Bool
is_address a_function = false
is_address a_slot = false
is_address an_address = true
is_address a_global = false
is_address a_table = false

abbrev pub is_null : Lead → Bool
is_null (leads.Here d) = false
is_null (leads.Import n) = false
is_null leads.Null = true
is_null leads.Nothing = false

abbrev pub addend_of : Lead → ℤ → Asks → ℤ
addend_of lead addend a_function = pos 0
addend_of lead addend a_slot = pos 0
addend_of lead addend an_address = addend_meant lead addend
addend_of lead addend a_global = pos 0
addend_of lead addend a_table = pos 0

-- The window of a reference that stands for this number.
abbrev pub window_to : ℕ → ℕ → ℤ → Lead → ℕ → Window
window_to place kind addend lead target = record {
  place = place;
  form = form_of kind;
  target = pos target;
  addend = addend_of lead addend (asks kind);
}

abbrev pub symbol_window : Looked → ℕ → ℕ → ℤ → Symbol → Window
symbol_window k place kind addend s = window_to place kind addend s.lead (target_of k s (asks kind))

abbrev pub type_window : ℕ → ℕ → Window
type_window place number = record { place = place; form = Unsigned5; target = pos number; addend = pos 0 }

abbrev pub window_of : Looked → Named → Window
window_of k (names.Symbol kind place addend symbol) = symbol_window k place kind addend (slice_index_or k.tables.symbols symbol no_symbol)
window_of k (names.Type place number) = type_window place (slice_index_or k.numbers.type_numbers number 0)

-- ---- usual references

-- The usual type of a reference to a symbol of a kind.
abbrev pub usual : SymbolKind → ℕ
usual kinds.Function = 0
usual kinds.Datum = 3
usual kinds.GlobalVar = 7
usual kinds.Section = 9
usual kinds.Table = 20

-- What a reference of the usual type to a symbol stands for.
abbrev pub usual_target : Looked → Symbol → ℕ
usual_target k s = target_of k s (asks (usual s.kind))

-- The numbers are those of usual references to each symbol, and small.
pub record AreTargets (k : Looked) (targets : List ℕ) : Type 0 where
  pub are : targets ≡ map (usual_target k) k.tables.symbols
  pub small : All (λ t. t < 2 ^ 33) targets

-- ---- sources

-- The number of the part that has the body of a function. What the linker makes has its numbers already.
abbrev pub body_number : List Chunk → FunctionKey → Option ℕ
body_number chunks (functions.Import n) = None
body_number chunks (functions.Own input index) = if input == 0 then None else chunk_number chunks (chunk_at input 0 index)
body_number chunks (functions.Stub n) = None

abbrev pub is_solid_at : Looked → ℕ → Bool
is_solid_at k n = slice_index_or k.placed.solid n false

abbrev pub defined : List FunctionKey → List FunctionKey
defined fs = drop (length (filter is_import fs)) fs
