-- Types, imports and constant expressions: which bytes spell them, and how they are read
-- (WebAssembly Core Specification 2.0, sections 5.3, 5.4.9 and 5.5.5).
--
-- An item that isn't linked is foreign as soon as the bytes tell it, and what follows isn't read.
-- Any other byte that is outside the grammar is broken, at its own place.
use Rattle.std.specs.Prelude.{ℕ, ◌-◌, Bool, true, false, List, [], ◌∷◌, length, Option, Some, None, Result, Ok, Err, ◌==◌, ◌||◌, if◌then◌else◌}
use Rattle.wasm_grammar.specs.wl_base.declared.item.Item.TheVariants as items
use Rattle.wasm_types.specs.declared.value.ValType.{ValType}
use Rattle.wasm_types.specs.declared.value.ValType.TheVariants.{I32, I64, F32, F64}
use Rattle.wasm_types.specs.declared.function.FuncType.{FuncType}
use Rattle.wasm_types.specs.declared.table.Limits.{Limits}
use Rattle.wasm_types.specs.declared.table.GlobalType.{GlobalType}
use Rattle.wasm_types.specs.declared.table.TableType.{TableType}
use Rattle.wasm_types.specs.declared.import.Import.{Import}
use Rattle.wasm_types.specs.declared.import.ImportKind.{ImportKind}
use Rattle.wasm_types.specs.declared.import.ImportKind.TheVariants as kinds
use Rattle.wasm_types.specs.declared.const_expr.ConstExpr.{ConstExpr}
use Rattle.wasm_types.specs.declared.const_expr.ConstExpr.TheVariants as exprs
use Rattle.wasm_grammar.specs.declared.fault.Stop.{Stop}
use Rattle.wasm_grammar.specs.declared.fault.Stop.TheVariants.{Broken, Foreign}
use Rattle.wasm_grammar.specs.Grammar.{SpellsByte, SpellsU32, SpellsS32, SpellsS64, SpellsName, SpellsVector, Then}
use Rattle.wasm_grammar.specs.Reading.{Read, ◌>>=◌, byte_at, tag_at, u32_at, s32_at, s64_at, name_at, vector_at}

-- ---- the grammar

-- The byte that spells a number type (Core 5.3.1).
abbrev pub val_byte : ValType → ℕ
val_byte I32 = 0x7f
val_byte I64 = 0x7e
val_byte F32 = 0x7d
val_byte F64 = 0x7c

-- A value type is one byte (Core 5.3.4). Those of vectors and references are foreign.
abbrev pub SpellsValType : ValType → List ℕ → Type 0
SpellsValType t = SpellsByte (val_byte t)

-- A function type is 60 and two vectors of value types, what the function takes and what it gives
-- (Core 5.3.5, 5.3.6).
abbrev pub SpellsFuncType : FuncType → List ℕ → Type 0
SpellsFuncType t = Then (SpellsByte 0x60) (Then (SpellsVector SpellsValType t.params) (SpellsVector SpellsValType t.results))

-- Limits: 00 and the least number, or 01, the least and the greatest (Core 5.3.7).
abbrev pub SpellsBounds : ℕ → Option ℕ → List ℕ → Type 0
SpellsBounds min None = Then (SpellsByte 0) (SpellsU32 min)
SpellsBounds min (Some max) = Then (SpellsByte 1) (Then (SpellsU32 min) (SpellsU32 max))

abbrev pub SpellsLimits : Limits → List ℕ → Type 0
SpellsLimits l = SpellsBounds l.min l.max

-- Whether a global may change: 00 is const, 01 is var (Core 5.3.10).
abbrev pub var_byte : Bool → ℕ
var_byte false = 0
var_byte true = 1

-- A global type is a value type and the byte that says whether it may change (Core 5.3.10).
abbrev pub SpellsGlobalType : GlobalType → List ℕ → Type 0
SpellsGlobalType t = Then (SpellsValType t.kind) (SpellsByte (var_byte t.var))

-- A reference type: 70 is funcref, 6F is externref (Core 5.3.3).
abbrev pub ref_byte : Bool → ℕ
ref_byte true = 0x70
ref_byte false = 0x6f

-- A table type is a reference type and limits (Core 5.3.9).
abbrev pub SpellsTableType : TableType → List ℕ → Type 0
SpellsTableType t = Then (SpellsByte (ref_byte t.funcref)) (SpellsLimits t.limits)

-- What an import is: 00 and the index of a function type, 01 and a table type, 02 and limits of a
-- memory, or 03 and a global type (Core 5.5.5).
abbrev pub SpellsImportKind : ImportKind → List ℕ → Type 0
SpellsImportKind (kinds.Function index) = Then (SpellsByte 0) (SpellsU32 index)
SpellsImportKind (kinds.Table t) = Then (SpellsByte 1) (SpellsTableType t)
SpellsImportKind (kinds.Memory l) = Then (SpellsByte 2) (SpellsLimits l)
SpellsImportKind (kinds.GlobalVar t) = Then (SpellsByte 3) (SpellsGlobalType t)

-- An import: the names of the module and the field, and what it is (Core 5.5.5).
abbrev pub SpellsImport : Import → List ℕ → Type 0
SpellsImport i = Then (SpellsName i.«module») (Then (SpellsName i.field) (SpellsImportKind i.kind))

-- A constant expression of one instruction, which 0B closes: i32.const, i64.const or global.get
-- (Core 5.4.4, 5.4.7, 5.4.9).
abbrev pub SpellsExpr : ConstExpr → List ℕ → Type 0
SpellsExpr (exprs.I32 n) = Then (SpellsByte 0x41) (Then (SpellsS32 n) (SpellsByte 0x0b))
SpellsExpr (exprs.I64 n) = Then (SpellsByte 0x42) (Then (SpellsS64 n) (SpellsByte 0x0b))
SpellsExpr (exprs.Get index) = Then (SpellsByte 0x23) (Then (SpellsU32 index) (SpellsByte 0x0b))

-- Those of them that are read. In an object and in a module that stands alone a global.get is
-- foreign: it is written, for a shared module, and not read.
abbrev pub SpellsConstExpr : ConstExpr → List ℕ → Type 0
SpellsConstExpr (exprs.I32 n) bytes = SpellsExpr (exprs.I32 n) bytes
SpellsConstExpr (exprs.I64 n) bytes = SpellsExpr (exprs.I64 n) bytes
SpellsConstExpr (exprs.Get index) bytes = ⊥

-- ---- reading

-- The value type of a byte at this place. v128 (7B), funcref (70) and externref (6F) are foreign.
abbrev pub val_type_of : ℕ → ℕ → Result ValType Stop
val_type_of place byte =
    if byte == 0x7f then Ok I32
    else (if byte == 0x7e then Ok I64
    else (if byte == 0x7d then Ok F32
    else (if byte == 0x7c then Ok F64
    else (if (byte == 0x7b) || (byte == 0x70) || (byte == 0x6f) then Err (Foreign (items.ValueType byte))
    else Err (Broken place)))))

unfoldable pub val_type_at : Read ValType
val_type_at end bytes = do
  byte ← byte_at end bytes
  t ← val_type_of (end - length bytes) byte.0
  Ok (t, byte.1)

unfoldable pub func_type_at : Read FuncType
func_type_at end bytes = do
  rest ← tag_at 0x60 end bytes
  params ← vector_at val_type_at end rest
  results ← vector_at val_type_at end params.1
  Ok (record { params = params.0; results = results.0 }, results.1)

abbrev pub least_at : Read Limits
least_at end bytes = do
  min ← u32_at end bytes
  Ok (record { min = min.0; max = None }, min.1)

abbrev pub bounds_at : Read Limits
bounds_at end bytes = do
  min ← u32_at end bytes
  max ← u32_at end min.1
  Ok (record { min = min.0; max = Some max.0 }, max.1)

-- The limits behind their first byte. One that is neither 00 nor 01 is foreign.
abbrev pub flagged_limits : ℕ → Read Limits
flagged_limits flag end rest =
    if flag == 0 then least_at end rest
    else (if flag == 1 then bounds_at end rest
    else Err (Foreign (items.LimitsFlag flag)))

unfoldable pub limits_at : Read Limits
limits_at end bytes = do
  flag ← byte_at end bytes
  flagged_limits flag.0 end flag.1

-- Whether the global may change, of a byte at this place.
abbrev pub var_of : ℕ → ℕ → Result Bool Stop
var_of place byte = if byte == 0 then Ok false else (if byte == 1 then Ok true else Err (Broken place))

unfoldable pub global_type_at : Read GlobalType
global_type_at end bytes = do
  kind ← val_type_at end bytes
  byte ← byte_at end kind.1
  var ← var_of (end - length kind.1) byte.0
  Ok (record { kind = kind.0; var = var }, byte.1)

-- Whether the table is of funcref, of a byte at this place.
abbrev pub funcref_of : ℕ → ℕ → Result Bool Stop
funcref_of place byte = if byte == 0x70 then Ok true else (if byte == 0x6f then Ok false else Err (Broken place))

unfoldable pub table_type_at : Read TableType
table_type_at end bytes = do
  byte ← byte_at end bytes
  funcref ← funcref_of (end - length bytes) byte.0
  limits ← limits_at end byte.1
  Ok (record { funcref = funcref; limits = limits.0 }, limits.1)

abbrev pub function_import_at : Read ImportKind
function_import_at end bytes = do
  index ← u32_at end bytes
  Ok (kinds.Function index.0, index.1)

abbrev pub table_import_at : Read ImportKind
table_import_at end bytes = do
  t ← table_type_at end bytes
  Ok (kinds.Table t.0, t.1)

abbrev pub memory_import_at : Read ImportKind
memory_import_at end bytes = do
  l ← limits_at end bytes
  Ok (kinds.Memory l.0, l.1)

abbrev pub global_import_at : Read ImportKind
global_import_at end bytes = do
  t ← global_type_at end bytes
  Ok (kinds.GlobalVar t.0, t.1)

-- What an import is, behind its first byte, which stands at this place. 04, a tag, is foreign.
abbrev pub tagged_import : ℕ → ℕ → Read ImportKind
tagged_import tag place end rest =
    if tag == 0 then function_import_at end rest
    else (if tag == 1 then table_import_at end rest
    else (if tag == 2 then memory_import_at end rest
    else (if tag == 3 then global_import_at end rest
    else (if tag == 4 then Err (Foreign items.TagImport)
    else Err (Broken place)))))

unfoldable pub import_kind_at : Read ImportKind
import_kind_at end bytes = do
  tag ← byte_at end bytes
  tagged_import tag.0 (end - length bytes) end tag.1

unfoldable pub import_at : Read Import
import_at end bytes = do
  from ← name_at end bytes
  field ← name_at end from.1
  kind ← import_kind_at end field.1
  Ok (record { «module» = from.0; field = field.0; kind = kind.0 }, kind.1)

-- The rest, behind the byte that closes an expression. Another opcode is foreign: the expression is
-- longer.
abbrev pub closed_at : ℕ → List ℕ → Result (List ℕ) Stop
closed_at end [] = Err (Broken end)
closed_at end (byte ∷ rest) = if byte == 0x0b then Ok rest else Err (Foreign (items.ConstExpr byte))

abbrev pub i32_expr_at : Read ConstExpr
i32_expr_at end bytes = do
  n ← s32_at end bytes
  rest ← closed_at end n.1
  Ok (exprs.I32 n.0, rest)

abbrev pub i64_expr_at : Read ConstExpr
i64_expr_at end bytes = do
  n ← s64_at end bytes
  rest ← closed_at end n.1
  Ok (exprs.I64 n.0, rest)

-- The expression behind its opcode. One other than i32.const and i64.const is foreign.
abbrev pub opened_expr : ℕ → Read ConstExpr
opened_expr opcode end rest =
    if opcode == 0x41 then i32_expr_at end rest
    else (if opcode == 0x42 then i64_expr_at end rest
    else Err (Foreign (items.ConstExpr opcode)))

unfoldable pub const_expr_at : Read ConstExpr
const_expr_at end bytes = do
  opcode ← byte_at end bytes
  opened_expr opcode.0 end opcode.1
