-- What only a module has: globals with their values, exports, element and data segments
-- (WebAssembly Core Specification 2.0, sections 5.5.9, 5.5.10, 5.5.12 and 5.5.14).
--
-- An object has them too, but for one thing: there a constant expression is no global.get. So the
-- first argument says whether it may be one.
use Rattle.std.specs.Prelude.{ℕ, ◌≤◌, Bool, true, false, List, Option, Some, None}
use Rattle.wasm_instr.specs.wasm_grammar.Grammar.{SpellsByte, SpellsU32, SpellsName, SpellsBytes, SpellsVector, Then}
use Rattle.wasm_instr.specs.wasm_types.declared.const_expr.ConstExpr.{ConstExpr}
use Rattle.wasm_instr.specs.wasm_types.Types.{SpellsGlobalType, SpellsExpr, SpellsConstExpr}
use Rattle.wasm_module.specs.declared.parts.ModuleGlobal.{ModuleGlobal}
use Rattle.wasm_module.specs.declared.parts.Export.{Export}
use Rattle.wasm_module.specs.declared.parts.Element.{Element}
use Rattle.wasm_module.specs.declared.parts.DataSegment.{DataSegment}

-- A constant expression (Core 5.4.9): a number, or, where it may be one, the value of a global.
abbrev pub SpellsInit : Bool → ConstExpr → List ℕ → Type 0
SpellsInit true = SpellsExpr
SpellsInit false = SpellsConstExpr

-- A global: its type, and the expression of its first value (Core 5.5.9).
abbrev pub SpellsGlobal : Bool → ModuleGlobal → List ℕ → Type 0
SpellsGlobal get g = Then (SpellsGlobalType g.kind) (SpellsInit get g.value)

-- What is exported: 00 a function, 01 a table, 02 a memory, 03 a global (Core 5.5.10).
abbrev pub SpellsExportKind : ℕ → List ℕ → Type 0
SpellsExportKind kind bytes = (kind ≤ 3) × SpellsByte kind bytes

-- An export: its name, what it is, and its index (Core 5.5.10).
abbrev pub SpellsExport : Export → List ℕ → Type 0
SpellsExport e = Then (SpellsName e.name) (Then (SpellsExportKind e.kind) (SpellsU32 e.index))

-- Functions that are put into a table (Core 5.5.12). By flag 0 it is table 0: the offset, and the
-- functions. By flag 2 the table is named, and the byte 00 says that functions follow.
abbrev pub SpellsFunctions : Bool → Option ℕ → ConstExpr → List ℕ → List ℕ → Type 0
SpellsFunctions get None offset functions =
    Then (SpellsU32 0) (Then (SpellsInit get offset) (SpellsVector SpellsU32 functions))
SpellsFunctions get (Some table) offset functions =
    Then (SpellsU32 2) (Then (SpellsU32 table) (Then (SpellsInit get offset) (Then (SpellsByte 0) (SpellsVector SpellsU32 functions))))

abbrev pub SpellsElement : Bool → Element → List ℕ → Type 0
SpellsElement get e = SpellsFunctions get e.table e.offset e.functions

-- Bytes that are put into a memory (Core 5.5.14). By flag 0 it is memory 0: the offset, and the
-- bytes. By flag 2 the memory is named.
abbrev pub SpellsData : Bool → Option ℕ → ConstExpr → List ℕ → List ℕ → Type 0
SpellsData get None offset data_bytes =
    Then (SpellsU32 0) (Then (SpellsInit get offset) (SpellsBytes data_bytes))
SpellsData get (Some memory) offset data_bytes =
    Then (SpellsU32 2) (Then (SpellsU32 memory) (Then (SpellsInit get offset) (SpellsBytes data_bytes)))

abbrev pub SpellsDataSegment : Bool → DataSegment → List ℕ → Type 0
SpellsDataSegment get s = SpellsData get s.memory s.offset s.bytes
