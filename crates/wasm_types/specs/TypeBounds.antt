-- What is broken stands at the end at most.
use Rattle.std.proofs.Common.{ℕ, ◌-◌, ◌≤◌, ◌||◌, true, false, List, [], ◌∷◌, length, Ok, Err, eqb, arith}
use Rattle.wasm_grammar.specs.wl_base.declared.item.Item.TheVariants as items
use Rattle.wasm_grammar.specs.declared.fault.Stop.TheVariants.{Broken, Foreign}
use Rattle.wasm_grammar.specs.Bounds.{Bounded, bind_bounded, cond_bounded, byte_bounded, tag_bounded, u32_bounded, s32_bounded, s64_bounded, name_bounded, vector_bounded}
use Rattle.wasm_grammar.specs.Reading.{byte_at, tag_at, u32_at, s32_at, s64_at, name_at, vector_at}
use Rattle.wasm_types.specs.declared.value.ValType.TheVariants.{I32, I64, F32, F64}
use Rattle.wasm_types.specs.Types.{val_type_of, val_type_at, func_type_at, least_at, bounds_at, limits_at, var_of, global_type_at, funcref_of, table_type_at, function_import_at, table_import_at, memory_import_at, global_import_at, import_kind_at, import_at, closed_at, i32_expr_at, i64_expr_at, const_expr_at}

pub val_type_of_bounded : (end place byte : ℕ) → place ≤ end → Bounded end (val_type_of place byte)
val_type_of_bounded end place byte le =
    cond_bounded end (eqb byte 0x7f) (Ok I32) _ tt (
    cond_bounded end (eqb byte 0x7e) (Ok I64) _ tt (
    cond_bounded end (eqb byte 0x7d) (Ok F32) _ tt (
    cond_bounded end (eqb byte 0x7c) (Ok F64) _ tt (
    cond_bounded end (eqb byte 0x7b || eqb byte 0x70 || eqb byte 0x6f) (Err (Foreign (items.ValueType byte))) (Err (Broken place)) tt le))))

pub val_type_bounded : (end : ℕ) (bytes : List ℕ) → Bounded end (val_type_at end bytes)
unfolding val_type_at
val_type_bounded end bytes =
    bind_bounded end (byte_at end bytes) _ (byte_bounded end bytes) (λ byte.
    bind_bounded end (val_type_of (end - length bytes) byte.0) _ (val_type_of_bounded end (end - length bytes) byte.0 (omega arith)) (λ t. tt))

pub func_type_bounded : (end : ℕ) (bytes : List ℕ) → Bounded end (func_type_at end bytes)
unfolding func_type_at
func_type_bounded end bytes =
    bind_bounded end (tag_at 0x60 end bytes) _ (tag_bounded 0x60 end bytes) (λ rest.
    bind_bounded end (vector_at val_type_at end rest) _ (vector_bounded val_type_at val_type_bounded end rest) (λ params.
    bind_bounded end (vector_at val_type_at end params.1) _ (vector_bounded val_type_at val_type_bounded end params.1) (λ results. tt)))

pub limits_bounded : (end : ℕ) (bytes : List ℕ) → Bounded end (limits_at end bytes)
unfolding limits_at
limits_bounded end bytes =
    bind_bounded end (byte_at end bytes) _ (byte_bounded end bytes) (λ flag.
    cond_bounded end (eqb flag.0 0) (least_at end flag.1) _ (bind_bounded end (u32_at end flag.1) _ (u32_bounded end flag.1) (λ min. tt)) (
    cond_bounded end (eqb flag.0 1) (bounds_at end flag.1) (Err (Foreign (items.LimitsFlag flag.0)))
    (bind_bounded end (u32_at end flag.1) _ (u32_bounded end flag.1) (λ min. bind_bounded end (u32_at end min.1) _ (u32_bounded end min.1) (λ max. tt))) tt))

pub global_type_bounded : (end : ℕ) (bytes : List ℕ) → Bounded end (global_type_at end bytes)
unfolding global_type_at
global_type_bounded end bytes =
    bind_bounded end (val_type_at end bytes) _ (val_type_bounded end bytes) (λ kind.
    bind_bounded end (byte_at end kind.1) _ (byte_bounded end kind.1) (λ byte.
    bind_bounded end (var_of (end - length kind.1) byte.0) _
    (cond_bounded end (eqb byte.0 0) (Ok false) _ tt (cond_bounded end (eqb byte.0 1) (Ok true) (Err (Broken (end - length kind.1))) tt (omega arith))) (λ var. tt)))

pub table_type_bounded : (end : ℕ) (bytes : List ℕ) → Bounded end (table_type_at end bytes)
unfolding table_type_at
table_type_bounded end bytes =
    bind_bounded end (byte_at end bytes) _ (byte_bounded end bytes) (λ byte.
    bind_bounded end (funcref_of (end - length bytes) byte.0) _
    (cond_bounded end (eqb byte.0 0x70) (Ok true) _ tt (cond_bounded end (eqb byte.0 0x6f) (Ok false) (Err (Broken (end - length bytes))) tt (omega arith))) (λ funcref.
    bind_bounded end (limits_at end byte.1) _ (limits_bounded end byte.1) (λ limits. tt)))

pub import_kind_bounded : (end : ℕ) (bytes : List ℕ) → Bounded end (import_kind_at end bytes)
unfolding import_kind_at
import_kind_bounded end bytes =
    bind_bounded end (byte_at end bytes) _ (byte_bounded end bytes) (λ tag.
    cond_bounded end (eqb tag.0 0) (function_import_at end tag.1) _ (bind_bounded end (u32_at end tag.1) _ (u32_bounded end tag.1) (λ x. tt)) (
    cond_bounded end (eqb tag.0 1) (table_import_at end tag.1) _ (bind_bounded end (table_type_at end tag.1) _ (table_type_bounded end tag.1) (λ x. tt)) (
    cond_bounded end (eqb tag.0 2) (memory_import_at end tag.1) _ (bind_bounded end (limits_at end tag.1) _ (limits_bounded end tag.1) (λ x. tt)) (
    cond_bounded end (eqb tag.0 3) (global_import_at end tag.1) _ (bind_bounded end (global_type_at end tag.1) _ (global_type_bounded end tag.1) (λ x. tt)) (
    cond_bounded end (eqb tag.0 4) (Err (Foreign items.TagImport)) (Err (Broken (end - length bytes))) tt (omega arith))))))

pub import_bounded : (end : ℕ) (bytes : List ℕ) → Bounded end (import_at end bytes)
unfolding import_at
import_bounded end bytes =
    bind_bounded end (name_at end bytes) _ (name_bounded end bytes) (λ from.
    bind_bounded end (name_at end from.1) _ (name_bounded end from.1) (λ field.
    bind_bounded end (import_kind_at end field.1) _ (import_kind_bounded end field.1) (λ kind. tt)))

closed_bounded : (end : ℕ) (bytes : List ℕ) → Bounded end (closed_at end bytes)
closed_bounded end [] = omega arith
closed_bounded end (b ∷ bytes) = cond_bounded end (eqb b 0x0b) (Ok bytes) (Err (Foreign (items.ConstExpr b))) tt tt

pub const_expr_bounded : (end : ℕ) (bytes : List ℕ) → Bounded end (const_expr_at end bytes)
unfolding const_expr_at
const_expr_bounded end bytes =
    bind_bounded end (byte_at end bytes) _ (byte_bounded end bytes) (λ opcode.
    cond_bounded end (eqb opcode.0 0x41) (i32_expr_at end opcode.1) _
    (bind_bounded end (s32_at end opcode.1) _ (s32_bounded end opcode.1) (λ n. bind_bounded end (closed_at end n.1) _ (closed_bounded end n.1) (λ r. tt))) (
    cond_bounded end (eqb opcode.0 0x42) (i64_expr_at end opcode.1) (Err (Foreign (items.ConstExpr opcode.0)))
    (bind_bounded end (s64_at end opcode.1) _ (s64_bounded end opcode.1) (λ n. bind_bounded end (closed_at end n.1) _ (closed_bounded end n.1) (λ r. tt))) tt))
