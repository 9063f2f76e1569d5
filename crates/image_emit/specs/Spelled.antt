-- Which module a tree is, and which trees have bytes that spell it, by the grammar of modules (Core Specification 2.0, chapter
-- 5, whose sections are named here).
use Rattle.std.specs.Prelude.{◌≡◌, ℕ, ◌+◌, ◌<◌, ◌≤◌, ◌^◌, pos, neg_ℤ, ◌≤ℤ◌, ◌<ℤ◌, List, [], ◌∷◌, length, None, IfSome, All, IsUtf8, flat_map}
use Rattle.std.specs.List.{AllZip}
use Rattle.wasm_module.specs.wasm_instr.wasm_types.declared.table.Limits.{Limits}
use Rattle.wasm_module.specs.wasm_instr.wasm_types.declared.table.TableType.{TableType}
use Rattle.wasm_module.specs.wasm_instr.wasm_types.declared.import.Import.{Import}
use Rattle.wasm_module.specs.wasm_instr.wasm_types.declared.import.ImportKind.{ImportKind}
use Rattle.wasm_module.specs.wasm_instr.wasm_types.declared.import.ImportKind.TheVariants as kinds
use Rattle.wasm_module.specs.wasm_instr.wasm_types.declared.const_expr.ConstExpr.{ConstExpr}
use Rattle.wasm_module.specs.wasm_instr.wasm_types.declared.const_expr.ConstExpr.TheVariants as constants
use Rattle.wasm_module.specs.wasm_instr.declared.body.Body.{Body}
use Rattle.wasm_module.specs.wasm_instr.Bodies.{SpellsBody}
use Rattle.wasm_module.specs.declared.parts.Export.{Export}
use Rattle.wasm_module.specs.declared.parts.ModuleGlobal.{ModuleGlobal}
use Rattle.wasm_module.specs.declared.parts.Element.{Element}
use Rattle.wasm_module.specs.declared.parts.DataSegment.{DataSegment}
use Rattle.wasm_module.specs.declared.structure.Module.{Module}
use Rattle.wasm_module.specs.Sections.{BeginsWithName}
use Rattle.image_emit.specs.Bytes.{Block, Tree, bytes_of, data_bytes}

-- ---- the module of a tree

-- The data segments (Core 2.5.8): none without blocks, and else one of memory 0 with the bytes from the first block on.
abbrev pub segments : ConstExpr → List Block → List DataSegment
segments offset [] = []
segments offset (b ∷ bs) = record { memory = None; offset = offset; bytes = data_bytes (b ∷ bs) } ∷ []

-- The tree as a module with these bodies (Core 2.5). No data count is given, and a custom section says nothing of a module.
abbrev pub module_with : List Body → Tree → Module
module_with bodies t = record {
  types = t.types;
  imports = t.imports;
  functions = t.functions;
  tables = t.tables;
  memories = t.memories;
  globals = t.globals;
  exports = t.exports;
  elements = t.elements;
  data_count = None;
  bodies = bodies;
  data_segments = segments t.data_offset t.blocks;
}

-- The tree is this module: all their parts are the same, and the bytes of each body spell the module's body (Core 5.5.13).
pub record IsTree (m : Module) (t : Tree) : Type 0 where
  pub parts : m ≡ module_with m.bodies t
  pub bodies : AllZip SpellsBody m.bodies t.bodies

-- ---- what the grammar asks of a tree

-- Sizes, counts and indices have 32 bits (Core 5.2.2).
abbrev pub IsU32 : ℕ → Type 0
IsU32 n = n < 2 ^ 32

-- A constant is in the range of its type, with a sign (Core 5.2.2).
abbrev pub IsConstant : ConstExpr → Type 0
IsConstant (constants.I32 z) = (neg_ℤ (pos (2 ^ 31)) ≤ℤ z) × (z <ℤ pos (2 ^ 31))
IsConstant (constants.I64 z) = (neg_ℤ (pos (2 ^ 63)) ≤ℤ z) × (z <ℤ pos (2 ^ 63))
IsConstant (constants.Get g) = IsU32 g

-- The bounds of limits (Core 5.3.7).
pub record AreLimits (l : Limits) : Type 0 where
  pub least : IsU32 l.min
  pub most : IfSome l.max IsU32

abbrev pub IsTable : TableType → Type 0
IsTable t = AreLimits t.limits

abbrev pub IsImportKind : ImportKind → Type 0
IsImportKind (kinds.Function t) = IsU32 t
IsImportKind (kinds.Table t) = IsTable t
IsImportKind (kinds.Memory m) = AreLimits m
IsImportKind (kinds.GlobalVar g) = Unit {0}

-- Names are UTF-8 (Core 5.2.4).
pub record IsImport (i : Import) : Type 0 where
  pub from : IsUtf8 i.«module»
  pub field : IsUtf8 i.field
  pub kind : IsImportKind i.kind

abbrev pub IsGlobal : ModuleGlobal → Type 0
IsGlobal g = IsConstant g.value

-- There are four kinds of exports (Core 5.5.10).
pub record IsExport (e : Export) : Type 0 where
  pub name : IsUtf8 e.name
  pub kind : e.kind ≤ 3
  pub index : IsU32 e.index

pub record IsElement (e : Element) : Type 0 where
  pub table : IfSome e.table IsU32
  pub offset : IsConstant e.offset
  pub functions : All IsU32 e.functions

-- The bytes are fewer than 2^32, so all sizes and counts fit. The other numbers are in their ranges, and names are UTF-8. The
-- custom section begins with a name (Core 5.5.3). There are as many bodies as functions (Core 5.5.16).
pub record IsSpellable (t : Tree) : Type 0 where
  pub short : IsU32 (length (bytes_of t))
  pub custom : IfSome t.custom BeginsWithName
  pub imports : All IsImport t.imports
  pub functions : All IsU32 t.functions
  pub tables : All IsTable t.tables
  pub memories : All AreLimits t.memories
  pub globals : All IsGlobal t.globals
  pub exports : All IsExport t.exports
  pub elements : All IsElement t.elements
  pub code : length t.functions ≡ length t.bodies
  pub offset : IsConstant t.data_offset

-- ---- how many

-- The entries of all sections together.
abbrev pub entries : Tree → ℕ
entries t =
    length t.types + length t.imports + length t.functions + length t.tables + length t.memories + length t.globals
    + length t.exports + length t.elements + length t.bodies

-- The functions that element segments name, all together.
abbrev pub named_in_elements : Tree → List ℕ
named_in_elements t = flat_map (λ e. e.functions) t.elements
