-- The sections of the output, by the data alone.
use Rattle.std.specs.Prelude.{ℕ, ◌+◌, ◌-◌, ◌==◌, ◌/◌, Bool, true, false, List, [], ◌∷◌, ◌++◌, map, filter, filter_map, length, slice_index_or, if◌then◌else◌, Option, Some, None, option_map, pos, codes}
use Rattle.std.specs.List.{cons_option}
use Rattle.link_program.specs.wasm_types.declared.table.Limits.{Limits}
use Rattle.link_program.specs.wasm_types.declared.table.TableType.{TableType}
use Rattle.link_program.specs.wasm_types.declared.value.ValType.TheVariants.{I32}
use Rattle.link_program.specs.wasm_types.declared.const_expr.ConstExpr.TheVariants as constants
use Rattle.link_program.specs.wasm_types.declared.import.Import.{Import}
use Rattle.link_program.specs.wasm_types.declared.import.ImportKind.TheVariants as kinds
use Rattle.link_program.specs.wasm_module.declared.export_kinds.TheConstants as exported
use Rattle.link_program.specs.wasm_module.declared.parts.Export.{Export}
use Rattle.link_program.specs.wasm_module.declared.parts.ModuleGlobal.{ModuleGlobal}
use Rattle.link_program.specs.wasm_module.declared.parts.Element.{Element}
use Rattle.link_program.specs.linking_section.declared.symbol.SymbolKind.{SymbolKind}
use Rattle.link_program.specs.linking_section.declared.symbol.SymbolKind.TheVariants.{Function, Datum, GlobalVar, Section, Table}
use Rattle.link_program.specs.linking_section.Flags.{kind_code}
use Rattle.link_program.specs.made_symbols.declared.mode.Mode.{Mode}
use Rattle.made_symbols.specs.Made.{call_ctors, stack_pointer}
use Rattle.link_program.specs.name_rules.Entries.{InputSymbol, untyped}
use Rattle.link_program.specs.mark_bits.declared.chunk.Chunk.{Chunk}
use Rattle.link_program.specs.reloc_apply.Windows.{signed32}
use Rattle.ctor_call.specs.Body.{ctor_body}
use Rattle.link_program.specs.index_layout.Numbers.{number_by}
use Rattle.link_program.specs.image_emit.declared.tree.PlacedSource.{PlacedSource}
use Rattle.link_program.specs.image_emit.declared.tree.Source.{Source}
use Rattle.link_program.specs.image_emit.declared.tree.Source.TheVariants.{File, Own}
use Rattle.link_program.specs.link_rules.Program.{chunk_at}
use Rattle.link_program.specs.link_rules.Marks.{by_mode, memory_name}
use Rattle.link_program.specs.link_rules.ModeOf.{mode_of}
use Rattle.link_program.specs.link_rules.Loader.{words, dylink}
use Rattle.dylink_out.specs.Shared.{apply_body, dylink_payload}
use Rattle.link_program.specs.image_emit.Bytes.{sized}
use Rattle.link_program.specs.memory_layout.Memory.{up}
use Rattle.link_program.specs.wasm_types.declared.const_expr.ConstExpr.{ConstExpr}
use Rattle.link_program.specs.link_rules.Values as values
use Rattle.link_program.specs.declared.symbol.Definition.{Definition}
use Rattle.link_program.specs.declared.symbol.Symbol.{Symbol}
use Rattle.link_program.specs.declared.named.Named.{Named}
use Rattle.link_program.specs.declared.named.Named.TheVariants as names
use Rattle.link_program.specs.declared.part.Content.{Content}
use Rattle.link_program.specs.declared.part.Content.TheVariants as contents
use Rattle.link_program.specs.declared.keys.FunctionKey.{FunctionKey}
use Rattle.link_program.specs.declared.keys.FunctionKey.TheVariants as functions
use Rattle.link_program.specs.declared.keys.GotKey.{GotKey}
use Rattle.link_program.specs.declared.keys.GotKey.TheVariants as cells
use Rattle.link_program.specs.declared.keys.GlobalKey.{GlobalKey}
use Rattle.link_program.specs.declared.keys.GlobalKey.TheVariants as globals
use Rattle.link_program.specs.Keys.{same_function_key, same_global_key}
use Rattle.link_program.specs.Seen.{no_symbol}
use Rattle.link_layout.specs.link_numbers.Numbered.{Numbered}
use Rattle.link_program.specs.image_emit.declared.tree.Image.{Image}
use Rattle.link_program.specs.link_rules.Program.{Program}
use Rattle.link_program.specs.link_rules.Marks.{export_name}
use Rattle.link_program.specs.link_rules.Output.{layout}
use Rattle.link_program.specs.Told.{told_definition}
use Rattle.link_program.specs.Live.{Stage}
use Rattle.link_layout.specs.declared.values.Layout.{Layout}
use Rattle.link_layout.specs.Layout.{looked}
use Rattle.link_program.specs.Look.{part_at, row_at}
use Rattle.link_image.specs.Imports.{functions_seen, global_seen}
use Rattle.link_program.specs.Look.{chunk_number}
use Rattle.link_program.specs.Meant.{function_of, function_meant, index_of}
use Rattle.link_layout.specs.Seen.{Looked, is_solid_at, slot_of}

-- ---- functions

-- The type of a function, where it is defined.
abbrev pub type_seen : FunctionKey → ℕ → Option ℕ
type_seen (functions.Import n) type = None
type_seen (functions.Own input index) type = Some type
type_seen (functions.Stub n) type = Some type

-- The types of the defined functions, by those of all functions.
abbrev pub types_seen : List ℕ → List FunctionKey → List ℕ
types_seen [] fs = []
types_seen (t ∷ ts) [] = []
types_seen (t ∷ ts) (f ∷ fs) = cons_option (type_seen f t) (types_seen ts fs)

-- ---- bodies

abbrev pub call_seen : List FunctionKey → List Symbol → Named → Option ℕ
call_seen fs symbols (names.Symbol kind place addend symbol) =
    Some (number_by same_function_key fs (function_meant (slice_index_or symbols symbol no_symbol).name (slice_index_or symbols symbol no_symbol).lead))
call_seen fs symbols (names.Type place number) = None

-- What a part calls.
abbrev pub calls_seen : Looked → Option ℕ → List ℕ
calls_seen k None = []
calls_seen k (Some n) = filter_map (call_seen k.numbers.functions k.tables.symbols) (row_at k.tables n)

abbrev pub file_seen : Looked → Option ℕ → Source
file_seen k None = Own []
file_seen k (Some n) = File (part_at k.tables n).source

-- The bytes of the function that makes addresses right.
abbrev pub apply_bytes : Stage → List ℕ
apply_bytes s = apply_body (words (mode_of s.program.plan) s.program s.parts (layout (mode_of s.program.plan) s.program s.parts s.exports))

-- The linker's function of a number calls the constructors, or has these bytes.
abbrev pub linker_bytes : List ℕ → Looked → ℕ → List ℕ
linker_bytes apply k index = if index == call_ctors then ctor_body (calls_seen k (chunk_number k.tables.chunks (chunk_at 0 0 index))) else apply

-- The body of a defined function.
abbrev pub body_seen : List ℕ → Looked → FunctionKey → Option Source
body_seen apply k (functions.Import n) = None
body_seen apply k (functions.Own input index) =
    if input == 0 then Some (Own (linker_bytes apply k index))
    else Some (file_seen k (chunk_number k.tables.chunks (chunk_at input 0 index)))
body_seen apply k (functions.Stub n) = Some (Own (0 ∷ 0 ∷ 0x0B ∷ []))

-- ---- globals

abbrev pub constant : Bool → ℕ → ModuleGlobal
constant var n = record { kind = record { kind = I32; var = var }; value = constants.I32 (signed32 n) }

-- An entry of which a definition tells.
abbrev pub entry_of : Definition → InputSymbol
entry_of d = record {
  input = d.input;
  place = d.place;
  index = d.index;
  symbol = record { kind = d.kind; flags = 0; name = None; index = 0; offset = d.offset; size = 0 };
  type = untyped;
  import = None;
  defines = false;
  class = 0;
}

-- What a cell of an address holds, by the addresses of data.
abbrev pub cell_seen : (InputSymbol → ℕ) → Numbered → GotKey → ℕ
cell_seen address n (cells.Here d) = if kind_code d.kind == kind_code Datum then address (entry_of d) else n.first_slot + number_by same_function_key n.slots (function_of d)
cell_seen address n (cells.Import i) = n.first_slot + number_by same_function_key n.slots (functions.Import i)
cell_seen address n (cells.Null kind) = 0

abbrev pub content_seen : Content → Option ModuleGlobal
content_seen (contents.Function number) = None
content_seen (contents.Segment align flags) = None
content_seen (contents.Global kind value) = Some (record { kind = kind; value = value })
content_seen contents.Made = None

abbrev pub part_global : Looked → Option ℕ → Option ModuleGlobal
part_global k None = None
part_global k (Some n) = content_seen (part_at k.tables n).content

-- A defined global. A cell of a shared output is written when it is loaded.
abbrev pub global_made : Mode → (InputSymbol → ℕ) → Looked → GlobalKey → Option ModuleGlobal
global_made mode address k (globals.Import n) = None
global_made mode address k (globals.Own input index) =
    if input == 0 then Some (constant (index == stack_pointer) (if index == stack_pointer then k.placed.places.stack_high else 0))
    else part_global k (chunk_number k.tables.chunks (chunk_at input 2 index))
global_made mode address k (globals.Got key) = Some (by_mode mode (constant false (cell_seen address k.numbers key)) (constant true 0))
global_made mode address k (globals.Datum d) = Some (constant false (address (entry_of d)))

-- ---- exports

abbrev pub space_of : SymbolKind → ℕ
space_of Function = exported.FUNCTION
space_of Datum = exported.GLOBAL
space_of GlobalVar = exported.GLOBAL
space_of Section = exported.TABLE
space_of Table = exported.TABLE

abbrev pub own_global : Numbered → Definition → ℕ
own_global n d = number_by same_global_key n.globals (globals.Own d.input (index_of d))

-- In a shared output the linker's globals are the first imports: the first of them is the linker's symbol of number 2.
abbrev pub shared_global : Numbered → Definition → ℕ
shared_global n d = if d.input == 0 then d.place - 2 else own_global n d

abbrev pub global_by : Mode → Numbered → Definition → ℕ
global_by mode n d = by_mode mode (own_global n d) (shared_global n d)

abbrev pub index_by : Mode → Numbered → Definition → SymbolKind → ℕ
index_by mode n d Function = number_by same_function_key n.functions (function_of d)
index_by mode n d Datum = number_by same_global_key n.globals (globals.Datum d)
index_by mode n d GlobalVar = global_by mode n d
index_by mode n d Section = 0
index_by mode n d Table = 0

abbrev pub export_seen : Mode → Numbered → List ℕ → Definition → Export
export_seen mode n name d = record { name = name; kind = space_of d.kind; index = index_by mode n d d.kind }

-- ---- elements and data

-- Slots begin at 1, or at the table's base.
abbrev pub slots_offset : Mode → ConstExpr
slots_offset mode = by_mode mode (constants.I32 (pos 1)) (constants.Get 2)

abbrev pub elements_seen : Mode → List ℕ → List Element
elements_seen mode takers = if length takers == 0 then [] else record { table = None; offset = slots_offset mode; functions = takers } ∷ []

abbrev pub block_at : Looked → ℕ → PlacedSource
block_at k n = record { address = slice_index_or k.placed.addresses n 0; source = File (part_at k.tables n).source }

abbrev pub first_of : List PlacedSource → ℕ
first_of [] = 0
first_of (b ∷ bs) = b.address

-- Data begin at the address of the first block, or at the memory's base.
abbrev pub data_offset : Mode → ℕ → ConstExpr
data_offset mode address = by_mode mode (constants.I32 (signed32 address)) (constants.Get 1)

-- ---- memory and table

abbrev pub plain_memory : ℕ → Option ℕ → Limits
plain_memory pages most = record { min = pages; max = option_map (λ n. n / 65536) most }

-- As many pages as hold the data up to an end.
abbrev pub shared_memory : ℕ → Limits
shared_memory end = record { min = up end 65536 / 65536; max = None }

abbrev pub memory_seen : Mode → ℕ → ℕ → Option ℕ → Limits
memory_seen mode pages end most = by_mode mode (plain_memory pages most) (shared_memory end)

abbrev pub memory_import : Limits → Import
memory_import memory = record { «module» = codes "env"; field = memory_name; kind = kinds.Memory memory }

abbrev pub memory_export : Export
memory_export = record { name = memory_name; kind = exported.MEMORY; index = 0 }

abbrev pub table_seen : ℕ → TableType
table_seen slots = record { funcref = true; limits = record { min = 1 + slots; max = Some (1 + slots) } }

abbrev pub table_import : ℕ → Import
table_import slots = record { «module» = codes "env"; field = codes "__indirect_function_table"; kind = kinds.Table (record { funcref = true; limits = record { min = slots; max = None } }) }

-- ---- the image

-- The numbers of the functions that have slots.
abbrev pub takers_of : Numbered → List ℕ
takers_of n = map (number_by same_function_key n.functions) n.slots

abbrev pub memory_of : Mode → Layout → Limits
memory_of mode d = memory_seen mode d.placed.now.places.pages d.placed.now.places.data_end d.program.plan.now.max_memory

abbrev pub is_imported : Mode → Layout → Bool
is_imported mode d = by_mode mode d.program.plan.now.import_memory true

abbrev pub imports_seen : Mode → Layout → List Import
imports_seen mode d =
    (if is_imported mode d then memory_import (memory_of mode d) ∷ [] else [])
    ++ by_mode mode [] (table_import (length d.numbering.now.slots) ∷ [])
    ++ functions_seen d.program.resolution.now.imports d.numbering.now.function_types d.numbering.now.functions
    ++ filter_map (global_seen d.program.resolution.now.imports) d.numbering.now.globals

abbrev pub memories_seen : Mode → Layout → List Limits
memories_seen mode d = if is_imported mode d then [] else memory_of mode d ∷ []

abbrev pub exports_seen : Mode → Layout → Program → List InputSymbol → List Export
exports_seen mode d p es =
    (if is_imported mode d then [] else memory_export ∷ [])
    ++ map (λ e. export_seen mode d.numbering.now (export_name p e) (told_definition e)) es

abbrev pub blocks_seen : Layout → List ℕ → List PlacedSource
blocks_seen d live = map (block_at (looked d)) (filter (is_solid_at (looked d)) live)

-- The section that tells the loader what it needs, from its name on.
abbrev pub section_bytes : Stage → List ℕ
section_bytes s =
    sized (codes "dylink.0")
    ++ dylink_payload (dylink (mode_of s.program.plan) s.program s.parts (layout (mode_of s.program.plan) s.program s.parts s.exports))

-- The image of a mode, by the data of a layout.
abbrev pub image_of : Mode → Stage → Layout → List ℕ → Image
image_of mode s d live = record {
  custom = by_mode mode None (Some (section_bytes s));
  types = d.numbering.now.types;
  imports = imports_seen mode d;
  functions = types_seen d.numbering.now.function_types d.numbering.now.functions;
  tables = by_mode mode (table_seen (length (takers_of d.numbering.now)) ∷ []) [];
  memories = memories_seen mode d;
  globals = filter_map (global_made mode (values.address_of (mode_of s.program.plan) (layout (mode_of s.program.plan) s.program s.parts s.exports)) (looked d)) d.numbering.now.globals;
  exports = exports_seen mode d s.program s.exports;
  elements = elements_seen mode (takers_of d.numbering.now);
  bodies = filter_map (body_seen (apply_bytes s) (looked d)) d.numbering.now.functions;
  data_offset = data_offset mode (first_of (blocks_seen d live));
  blocks = blocks_seen d live;
}

-- The same of the mode that the words ask for.
abbrev pub image_seen : Stage → Layout → List ℕ → Image
image_seen s d live = image_of (mode_of d.program.plan.now) s d live
