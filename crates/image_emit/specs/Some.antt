-- No spelling is empty.
use Rattle.std.proofs.Common.{◌<◌, ◌+◌, ℕ, List, [], ◌∷◌, ◌++◌, length, arith, length-append, nat_lt, Bool, true, false, cond, Option, Some, None, ◌%◌, ◌/◌}
use Rattle.wasm_module.specs.wasm_instr.leb_codec.Shortest.{u32, shortest}
use Rattle.wasm_module.specs.wasm_instr.wasm_types.declared.value.ValType.{ValType}
use Rattle.wasm_module.specs.wasm_instr.wasm_types.declared.function.FuncType.{FuncType}
use Rattle.wasm_module.specs.wasm_instr.wasm_types.declared.table.Limits.{Limits}
use Rattle.wasm_module.specs.wasm_instr.wasm_types.declared.table.GlobalType.{GlobalType}
use Rattle.wasm_module.specs.wasm_instr.wasm_types.declared.table.TableType.{TableType}
use Rattle.wasm_module.specs.wasm_instr.wasm_types.declared.import.Import.{Import}
use Rattle.wasm_module.specs.wasm_instr.wasm_types.declared.import.ImportKind.{ImportKind}
use Rattle.wasm_module.specs.wasm_instr.wasm_types.declared.import.ImportKind.TheVariants as kinds
use Rattle.wasm_module.specs.wasm_instr.wasm_types.declared.const_expr.ConstExpr.{ConstExpr}
use Rattle.wasm_module.specs.wasm_instr.wasm_types.declared.const_expr.ConstExpr.TheVariants as constants
use Rattle.wasm_module.specs.declared.parts.Export.{Export}
use Rattle.wasm_module.specs.declared.parts.ModuleGlobal.{ModuleGlobal}
use Rattle.wasm_module.specs.declared.parts.Element.{Element}
use Rattle.image_emit.specs.Bytes.{val_type, func_type, vector, limits, limits_to, sized, table, global_type, import_kind, import_entry, const_expr, global, export, element, element_head}

pub u32_some : (n : ℕ) → 0 < length (u32 n)
unfolding u32
u32_some n = by (nat_lt n 128)
  where
    by : (low : Bool) → 0 < length (cond low (n ∷ []) ((128 + n % 128) ∷ shortest 3 (n / 128)))
    by true = omega arith
    by false = omega arith

pub val_type_some : (t : ValType) → 0 < length (val_type t)
val_type_some t = omega arith

pub func_type_some : (t : FuncType) → 0 < length (func_type t)
func_type_some t = omega arith

limits_to_some : (least : ℕ) (most : Option ℕ) → 0 < length (limits_to least most)
limits_to_some least None = omega arith
limits_to_some least (Some most) = omega arith

pub limits_some : (l : Limits) → 0 < length (limits l)
limits_some l = limits_to_some l.min l.max

pub table_some : (t : TableType) → 0 < length (table t)
table_some t = omega arith

pub global_type_some : (g : GlobalType) → 0 < length (global_type g)
global_type_some g = omega arith

pub import_kind_some : (k : ImportKind) → 0 < length (import_kind k)
import_kind_some (kinds.Function t) = omega arith
import_kind_some (kinds.Table t) = omega arith
import_kind_some (kinds.Memory m) = omega arith
import_kind_some (kinds.GlobalVar g) = omega arith

sized_some : (bytes rest : List ℕ) → 0 < length (sized bytes ++ rest)
sized_some bytes rest = omega (arith, length-append (sized bytes) rest, length-append (u32 (length bytes)) bytes, u32_some (length bytes))

pub import_entry_some : (i : Import) → 0 < length (import_entry i)
import_entry_some i = omega (arith, length-append (sized i.«module» ++ sized i.field) (import_kind i.kind), import_kind_some i.kind)

pub const_expr_some : (e : ConstExpr) → 0 < length (const_expr e)
const_expr_some (constants.I32 z) = omega arith
const_expr_some (constants.I64 z) = omega arith
const_expr_some (constants.Get g) = omega arith

pub global_some : (g : ModuleGlobal) → 0 < length (global g)
global_some g = omega (arith, length-append (global_type g.kind) (const_expr g.value), global_type_some g.kind)

pub export_some : (e : Export) → 0 < length (export e)
export_some e = sized_some e.name (e.kind ∷ u32 e.index)

head_some : (t : Option ℕ) (offset : ConstExpr) → 0 < length (element_head t offset)
head_some None offset = omega arith
head_some (Some t) offset = omega arith

pub element_some : (e : Element) → 0 < length (element e)
element_some e = omega (arith, length-append (element_head e.table e.offset) (vector u32 e.functions), head_some e.table e.offset)
