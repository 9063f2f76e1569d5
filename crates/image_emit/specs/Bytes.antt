-- The bytes of a module, by the binary format of the Core Specification 2.0 (chapter 5), whose sections are named here.
-- Every number that stands in the module's own structure has its shortest spelling, which Core 5.2.2 leaves open.
use Rattle.std.specs.Prelude.{ℕ, ◌+◌, ◌-◌, List, [], ◌∷◌, ◌++◌, length, map, take, drop, replicate, slice_index_or, ◌==◌, Bool, flat_map, if◌then◌else◌, Option, Some, None}
use Rattle.wasm_module.specs.wasm_instr.leb_codec.Shortest.{u32, s32, s64}
use Rattle.wasm_module.specs.wasm_instr.wl_base.declared.span.FileSpan.{FileSpan}
use Rattle.wasm_module.specs.wasm_instr.wasm_types.Types.{val_byte}
use Rattle.wasm_module.specs.wasm_instr.wasm_types.declared.value.ValType.{ValType}
use Rattle.wasm_module.specs.wasm_instr.wasm_types.declared.function.FuncType.{FuncType}
use Rattle.wasm_module.specs.wasm_instr.wasm_types.declared.table.GlobalType.{GlobalType}
use Rattle.wasm_module.specs.wasm_instr.wasm_types.declared.table.Limits.{Limits}
use Rattle.wasm_module.specs.wasm_instr.wasm_types.declared.table.TableType.{TableType}
use Rattle.wasm_module.specs.wasm_instr.wasm_types.declared.import.Import.{Import}
use Rattle.wasm_module.specs.wasm_instr.wasm_types.declared.import.ImportKind.{ImportKind}
use Rattle.wasm_module.specs.wasm_instr.wasm_types.declared.import.ImportKind.TheVariants as kinds
use Rattle.wasm_module.specs.wasm_instr.wasm_types.declared.const_expr.ConstExpr.{ConstExpr}
use Rattle.wasm_module.specs.wasm_instr.wasm_types.declared.const_expr.ConstExpr.TheVariants as constants
use Rattle.wasm_module.specs.declared.parts.Export.{Export}
use Rattle.wasm_module.specs.declared.parts.ModuleGlobal.{ModuleGlobal}
use Rattle.wasm_module.specs.declared.parts.Element.{Element}
use Rattle.image_emit.specs.declared.tree.Image.{Image}
use Rattle.image_emit.specs.declared.tree.Source.{Source}
use Rattle.image_emit.specs.declared.tree.Source.TheVariants.{File, Own}
use Rattle.image_emit.specs.declared.tree.PlacedSource.{PlacedSource}

-- Bytes of the memory, by the address of the first.
pub record Block : Type 0 where
  pub address : ℕ
  pub bytes : List ℕ

-- The module as a tree: an image in which each source is its bytes. Its fields are the parts of a module (Core 2.5), but for
-- the start function, which the output has not.
pub record Tree : Type 0 where
  pub custom : Option (List ℕ)
  pub types : List FuncType
  pub imports : List Import
  pub functions : List ℕ
  pub tables : List TableType
  pub memories : List Limits
  pub globals : List ModuleGlobal
  pub exports : List Export
  pub elements : List Element
  pub bodies : List (List ℕ)
  pub data_offset : ConstExpr
  pub blocks : List Block

-- The bytes of a part of a file: as many as it counts from its start on, and fewer where the file ends before. Of a file
-- that is not there it has none.
abbrev pub file_part : List (List ℕ) → FileSpan → List ℕ
file_part files f = take f.span.len (drop f.span.start (slice_index_or files f.file []))

-- The bytes that a source stands for.
abbrev pub source_bytes : List (List ℕ) → Source → List ℕ
source_bytes files (File f) = file_part files f
source_bytes files (Own bytes) = bytes

-- A placed source as bytes at its address.
abbrev pub block_of : List (List ℕ) → PlacedSource → Block
block_of files p = record { address = p.address; bytes = source_bytes files p.source }

-- The tree of an image: its sources replaced by their bytes as they stand in the files, with no relocation written.
abbrev pub tree_of : List (List ℕ) → Image → Tree
tree_of files i = record {
  custom = i.custom;
  types = i.types;
  imports = i.imports;
  functions = i.functions;
  tables = i.tables;
  memories = i.memories;
  globals = i.globals;
  exports = i.exports;
  elements = i.elements;
  bodies = map (source_bytes files) i.bodies;
  data_offset = i.data_offset;
  blocks = map (block_of files) i.blocks;
}

-- A vector is the count of its items and then the items, one after another (Core 5.1.3).
abbrev pub vector : {A : Type 0} → (A → List ℕ) → List A → List ℕ
vector item items = u32 (length items) ++ flat_map item items

-- Bytes behind their length. So are written a vector of bytes, as a name (Core 5.1.3 and 5.2.4), what a section holds
-- (Core 5.5.2), and a function's body (Core 5.5.13).
abbrev pub sized : List ℕ → List ℕ
sized bytes = u32 (length bytes) ++ bytes

-- A section is the byte of its number, the size of what it holds, and that: the vector of its entries. One with no entries
-- is left out, which means the same (Core 5.5.2).
abbrev pub section : {A : Type 0} → ℕ → (A → List ℕ) → List A → List ℕ
section id item items = if length items == 0 then [] else id ∷ sized (vector item items)

-- A value type is one byte (Core 5.3.1 and 5.3.4).
abbrev pub val_type : ValType → List ℕ
val_type t = val_byte t ∷ []

-- A function type is the byte 0x60, the vector of its parameters and that of its results (Core 5.3.5 and 5.3.6).
abbrev pub func_type : FuncType → List ℕ
func_type t = 0x60 ∷ vector val_type t.params ++ vector val_type t.results

-- Limits are 0 and the least size, or 1, the least size and the greatest (Core 5.3.7).
abbrev pub limits_to : ℕ → Option ℕ → List ℕ
limits_to least None = 0 ∷ u32 least
limits_to least (Some most) = 1 ∷ u32 least ++ u32 most

-- The limits of a memory are its type, counted in pages (Core 5.3.8).
abbrev pub limits : Limits → List ℕ
limits l = limits_to l.min l.max

-- A table type is the kind of its references, 0x70 of functions and 0x6F of what the host keeps, and its limits
-- (Core 5.3.3 and 5.3.9).
abbrev pub table : TableType → List ℕ
table t = (if t.funcref then 0x70 else 0x6F) ∷ limits t.limits

-- A global type is the type of its value, and 1 if it can be set, 0 if not (Core 5.3.10).
abbrev pub global_type : GlobalType → List ℕ
global_type g = val_byte g.kind ∷ (if g.var then 1 else 0) ∷ []

-- What is imported, behind the number of its kind: 0 a function with the index of its type, 1 a table, 2 a memory, 3 a global
-- (Core 5.5.5).
abbrev pub import_kind : ImportKind → List ℕ
import_kind (kinds.Function t) = 0 ∷ u32 t
import_kind (kinds.Table t) = 1 ∷ table t
import_kind (kinds.Memory m) = 2 ∷ limits m
import_kind (kinds.GlobalVar g) = 3 ∷ global_type g

-- An import is the name of its module, its own name there, and what it is (Core 5.5.5).
abbrev pub import_entry : Import → List ℕ
import_entry i = sized i.«module» ++ sized i.field ++ import_kind i.kind

-- A constant expression is one instruction, 0x41 i32.const (Core 5.4.7), 0x42 i64.const or 0x23 global.get (Core 5.4.4),
-- and the byte 0x0B, which ends it (Core 5.4.9). A constant is written with its sign.
abbrev pub const_expr : ConstExpr → List ℕ
const_expr (constants.I32 z) = 0x41 ∷ s32 z ++ 0x0B ∷ []
const_expr (constants.I64 z) = 0x42 ∷ s64 z ++ 0x0B ∷ []
const_expr (constants.Get g) = 0x23 ∷ u32 g ++ 0x0B ∷ []

-- A global is its type and the expression of its first value (Core 5.5.9).
abbrev pub global : ModuleGlobal → List ℕ
global g = global_type g.kind ++ const_expr g.value

-- An export is its name, the number of its kind and the index of what is exported among those of its kind (Core 5.5.10).
abbrev pub export : Export → List ℕ
export e = sized e.name ++ e.kind ∷ u32 e.index

-- What stands before the functions of an active element segment: the flag 0 and the offset, which means table 0; or the flag
-- 2, the table, the offset and the kind of the elements, 0, which is functions (Core 5.5.12).
abbrev pub element_head : Option ℕ → ConstExpr → List ℕ
element_head None offset = 0 ∷ const_expr offset
element_head (Some t) offset = 2 ∷ u32 t ++ const_expr offset ++ 0 ∷ []

-- An active element segment: that, and the vector of the functions' indices (Core 5.5.12).
abbrev pub element : Element → List ℕ
element e = element_head e.table e.offset ++ vector u32 e.functions

-- The bytes of the memory from an address on to the end of the last block: the blocks, with zeros between them. They stand
-- by rising address and do not overlap.
abbrev pub laid : ℕ → List Block → List ℕ
laid at [] = []
laid at (b ∷ bs) = replicate (b.address - at) 0 ++ b.bytes ++ laid (b.address + length b.bytes) bs

-- The bytes from the first block's address on.
abbrev pub data_bytes : List Block → List ℕ
data_bytes [] = []
data_bytes (b ∷ bs) = laid b.address (b ∷ bs)

-- The data section, number 11, has one active segment: the flag 0, which means memory 0, the offset and the vector of the
-- bytes. With no block it is left out (Core 5.5.14).
abbrev pub data_section : ConstExpr → List Block → List ℕ
data_section offset [] = []
data_section offset (b ∷ bs) = 11 ∷ sized (1 ∷ 0 ∷ const_expr offset ++ sized (data_bytes (b ∷ bs)))

-- A custom section, number 0: what it holds, which begins with its name, behind its size (Core 5.5.3).
abbrev pub custom_section : Option (List ℕ) → List ℕ
custom_section None = []
custom_section (Some payload) = 0 ∷ sized payload

-- A module begins with the four bytes of its magic, a zero and "asm", and the four of its version, 1 (Core 5.5.16).
abbrev pub header : List ℕ
header = 0x00 ∷ 0x61 ∷ 0x73 ∷ 0x6D ∷ 1 ∷ 0 ∷ 0 ∷ 0 ∷ []

-- A module is its header and then its sections: custom, which may stand anywhere, type, import, function, table, memory,
-- global, export, element, code and data (Core 5.5.16). There is no start section, number 8, and no data count, number 12,
-- which only instructions that name data segments ask for (Core 5.5.15). The code section holds each body behind its size
-- (Core 5.5.13).
unfoldable pub bytes_of : Tree → List ℕ
bytes_of t =
    header
    ++ custom_section t.custom
    ++ section 1 func_type t.types
    ++ section 2 import_entry t.imports
    ++ section 3 u32 t.functions
    ++ section 4 table t.tables
    ++ section 5 limits t.memories
    ++ section 6 global t.globals
    ++ section 7 export t.exports
    ++ section 9 element t.elements
    ++ section 10 sized t.bodies
    ++ data_section t.data_offset t.blocks
