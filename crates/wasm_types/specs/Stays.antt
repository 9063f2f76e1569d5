-- A foreign item in a type, an import or a constant expression stays the answer, whatever bytes
-- follow.
use Rattle.std.proofs.Common.{◌≡◌, ℕ, ◌-◌, Bool, true, false, cond, eqb, ◌||◌, List, [], ◌∷◌, ◌++◌, length, Result, Ok, Err, refl}
use Rattle.wasm_grammar.specs.wl_base.declared.item.Item.TheVariants as items
use Rattle.wasm_grammar.specs.declared.fault.Stop.{Stop}
use Rattle.wasm_grammar.specs.declared.fault.Stop.TheVariants.{Broken, Foreign}
use Rattle.wasm_grammar.specs.Grammar.{SpellsByte, SpellsName, SpellsVector}
use Rattle.wasm_grammar.specs.Reading.{◌>>=◌, byte_at, u32_at, s32_at, s64_at, name_at, vector_at}
use Rattle.wasm_grammar.specs.ReaderLaws.{never, byte_reader, u32_reader, s32_reader, s64_reader, name_reader, vector_reader}
use Rattle.wasm_grammar.specs.Stays.{Stays, IsSteady, bind_stays, step_stays, cond_stays, tag_stays, byte_stays, u32_stays, s32_stays, s64_stays, name_stays, vector_stays}
use Rattle.wasm_types.specs.declared.value.ValType.{ValType}
use Rattle.wasm_types.specs.declared.value.ValType.TheVariants.{I32, I64, F32, F64}
use Rattle.wasm_types.specs.Types.{SpellsValType, SpellsLimits, SpellsGlobalType, SpellsTableType, SpellsImportKind, val_type_of, val_type_at, func_type_at, least_at, bounds_at, limits_at, var_of, global_type_at, funcref_of, table_type_at, function_import_at, table_import_at, memory_import_at, global_import_at, tagged_import, import_kind_at, import_at, closed_at, i32_expr_at, i64_expr_at, const_expr_at}
use Rattle.wasm_types.specs.TypeLaws.{val_type_reader, limits_reader, global_type_reader, table_type_reader, import_kind_reader}

-- ---- value types

pub type_stays : (place other byte : ℕ) → Stays (val_type_of place byte) (val_type_of other byte)
type_stays place other byte =
    cond_stays (eqb byte 0x7f) (Ok I32) _ (Ok I32) _ tt (
    cond_stays (eqb byte 0x7e) (Ok I64) _ (Ok I64) _ tt (
    cond_stays (eqb byte 0x7d) (Ok F32) _ (Ok F32) _ tt (
    cond_stays (eqb byte 0x7c) (Ok F64) _ (Ok F64) _ tt (
    cond_stays (eqb byte 0x7b || eqb byte 0x70 || eqb byte 0x6f) (Err (Foreign (items.ValueType byte))) (Err (Broken place)) (Err (Foreign (items.ValueType byte))) (Err (Broken other)) refl tt))))

-- an answer behind a test, which another answer follows
answers : {A : Type 0} (q : Bool) (x y : A) (r s : Result A Stop) → (r ≡ Ok y → s ≡ Ok y) → cond q (Ok x) r ≡ Ok y → cond q (Ok x) s ≡ Ok y
answers true x y r s f e = e
answers false x y r s f e = f e

pub type_same : (place other byte : ℕ) (t : ValType) → val_type_of place byte ≡ Ok t → val_type_of other byte ≡ Ok t
type_same place other byte t =
    answers (eqb byte 0x7f) I32 t _ _ (
    answers (eqb byte 0x7e) I64 t _ _ (
    answers (eqb byte 0x7d) F32 t _ _ (
    answers (eqb byte 0x7c) F64 t _ _ (no_type (eqb byte 0x7b || eqb byte 0x70 || eqb byte 0x6f)))))
  where
    no_type : (q : Bool) → (let r : Result ValType Stop = cond q (Err (Foreign (items.ValueType byte))) (Err (Broken place)) in let s : Result ValType Stop = cond q (Err (Foreign (items.ValueType byte))) (Err (Broken other)) in r ≡ Ok t → s ≡ Ok t)
    no_type true e = absurd cc
    no_type false e = absurd cc

pub val_type_stays : IsSteady val_type_at
unfolding val_type_at
val_type_stays end other bytes more =
    bind_stays SpellsByte byte_at byte_reader byte_stays end other bytes more _ _ (λ byte rest.
    step_stays (val_type_of (end - length bytes) byte) (val_type_of (other - length (bytes ++ more)) byte) _ _ (type_stays (end - length bytes) (other - length (bytes ++ more)) byte) (type_same (end - length bytes) (other - length (bytes ++ more)) byte) (λ t. tt))

-- ---- limits

pub limits_stay : IsSteady limits_at
unfolding limits_at
limits_stay end other bytes more =
    bind_stays SpellsByte byte_at byte_reader byte_stays end other bytes more _ _ (λ flag rest.
    cond_stays (eqb flag 0) (least_at end rest) _ (least_at other (rest ++ more)) _
    (bind_stays _ u32_at u32_reader u32_stays end other rest more _ _ (λ min r. tt)) (
    cond_stays (eqb flag 1) (bounds_at end rest) (Err (Foreign (items.LimitsFlag flag))) (bounds_at other (rest ++ more)) (Err (Foreign (items.LimitsFlag flag)))
    (bind_stays _ u32_at u32_reader u32_stays end other rest more _ _ (λ min r. bind_stays _ u32_at u32_reader u32_stays end other r more _ _ (λ max s. tt)))
    refl))

-- ---- types of globals and tables

var_stays : (place other byte : ℕ) → Stays (var_of place byte) (var_of other byte)
var_stays place other byte =
    cond_stays (eqb byte 0) (Ok false) _ (Ok false) _ tt (
    cond_stays (eqb byte 1) (Ok true) (Err (Broken place)) (Ok true) (Err (Broken other)) tt tt)

var_same : (place other byte : ℕ) (v : Bool) → var_of place byte ≡ Ok v → var_of other byte ≡ Ok v
var_same place other byte v =
    answers (eqb byte 0) false v _ _ (
    answers (eqb byte 1) true v (Err (Broken place)) (Err (Broken other)) (never (Broken place) v))

pub global_type_stays : IsSteady global_type_at
unfolding global_type_at
global_type_stays end other bytes more =
    bind_stays SpellsValType val_type_at val_type_reader val_type_stays end other bytes more _ _ (λ kind rest.
    bind_stays SpellsByte byte_at byte_reader byte_stays end other rest more _ _ (λ byte r.
    step_stays (var_of (end - length rest) byte) (var_of (other - length (rest ++ more)) byte) _ _ (var_stays (end - length rest) (other - length (rest ++ more)) byte) (var_same (end - length rest) (other - length (rest ++ more)) byte) (λ v. tt)))

funcref_stays : (place other byte : ℕ) → Stays (funcref_of place byte) (funcref_of other byte)
funcref_stays place other byte =
    cond_stays (eqb byte 0x70) (Ok true) _ (Ok true) _ tt (
    cond_stays (eqb byte 0x6f) (Ok false) (Err (Broken place)) (Ok false) (Err (Broken other)) tt tt)

funcref_same : (place other byte : ℕ) (v : Bool) → funcref_of place byte ≡ Ok v → funcref_of other byte ≡ Ok v
funcref_same place other byte v =
    answers (eqb byte 0x70) true v _ _ (
    answers (eqb byte 0x6f) false v (Err (Broken place)) (Err (Broken other)) (never (Broken place) v))

pub table_type_stays : IsSteady table_type_at
unfolding table_type_at
table_type_stays end other bytes more =
    bind_stays SpellsByte byte_at byte_reader byte_stays end other bytes more _ _ (λ byte rest.
    step_stays (funcref_of (end - length bytes) byte) (funcref_of (other - length (bytes ++ more)) byte) _ _ (funcref_stays (end - length bytes) (other - length (bytes ++ more)) byte) (funcref_same (end - length bytes) (other - length (bytes ++ more)) byte) (λ f.
    bind_stays SpellsLimits limits_at limits_reader limits_stay end other rest more _ _ (λ l r. tt)))

-- ---- imports

tagged_stays : (tag place elsewhere end other : ℕ) (rest more : List ℕ) → Stays (tagged_import tag place end rest) (tagged_import tag elsewhere other (rest ++ more))
tagged_stays tag place elsewhere end other rest more =
    cond_stays (eqb tag 0) (function_import_at end rest) _ (function_import_at other (rest ++ more)) _ (bind_stays _ u32_at u32_reader u32_stays end other rest more _ _ (λ x r. tt)) (
    cond_stays (eqb tag 1) (table_import_at end rest) _ (table_import_at other (rest ++ more)) _ (bind_stays SpellsTableType table_type_at table_type_reader table_type_stays end other rest more _ _ (λ x r. tt)) (
    cond_stays (eqb tag 2) (memory_import_at end rest) _ (memory_import_at other (rest ++ more)) _ (bind_stays SpellsLimits limits_at limits_reader limits_stay end other rest more _ _ (λ x r. tt)) (
    cond_stays (eqb tag 3) (global_import_at end rest) _ (global_import_at other (rest ++ more)) _ (bind_stays SpellsGlobalType global_type_at global_type_reader global_type_stays end other rest more _ _ (λ x r. tt)) (
    cond_stays (eqb tag 4) (Err (Foreign items.TagImport)) (Err (Broken place)) (Err (Foreign items.TagImport)) (Err (Broken elsewhere)) refl tt))))

pub import_kind_stays : IsSteady import_kind_at
unfolding import_kind_at
import_kind_stays end other bytes more =
    bind_stays SpellsByte byte_at byte_reader byte_stays end other bytes more _ _ (λ tag rest.
    tagged_stays tag (end - length bytes) (other - length (bytes ++ more)) end other rest more)

pub import_stays : IsSteady import_at
unfolding import_at
import_stays end other bytes more =
    bind_stays SpellsName name_at name_reader name_stays end other bytes more _ _ (λ from rest.
    bind_stays SpellsName name_at name_reader name_stays end other rest more _ _ (λ field r.
    bind_stays SpellsImportKind import_kind_at import_kind_reader import_kind_stays end other r more _ _ (λ kind s. tt)))

-- ---- function types

pub func_type_stays : IsSteady func_type_at
unfolding func_type_at
func_type_stays end other bytes more =
    let read = vector_at val_type_at in
    let reader = vector_reader SpellsValType val_type_at val_type_reader in
    let steady = vector_stays SpellsValType val_type_at val_type_reader val_type_stays in
    tag_stays 0x60 end other bytes more _ _ (λ rest.
    bind_stays (SpellsVector SpellsValType) read reader steady end other rest more _ _ (λ params r.
    bind_stays (SpellsVector SpellsValType) read reader steady end other r more _ _ (λ results s. tt)))

-- ---- constant expressions

closed_stays : {B : Type 0} (end other : ℕ) (bytes more : List ℕ) (f g : List ℕ → Result B Stop) → ((rest : List ℕ) → Stays (f rest) (g (rest ++ more))) → Stays (closed_at end bytes >>= f) (closed_at other (bytes ++ more) >>= g)
closed_stays end other [] more f g second = tt
closed_stays {B} end other (b ∷ bytes) more f g second = by_case (eqb b 0x0b)
  where
    by_case : (q : Bool) → Stays (cond q (Ok bytes) (Err (Foreign (items.ConstExpr b))) >>= f) (cond q (Ok (bytes ++ more)) (Err (Foreign (items.ConstExpr b))) >>= g)
    by_case true = second bytes
    by_case false = refl

pub const_expr_stays : IsSteady const_expr_at
unfolding const_expr_at
const_expr_stays end other bytes more =
    bind_stays SpellsByte byte_at byte_reader byte_stays end other bytes more _ _ (λ opcode rest.
    cond_stays (eqb opcode 0x41) (i32_expr_at end rest) _ (i32_expr_at other (rest ++ more)) _
    (bind_stays _ s32_at s32_reader s32_stays end other rest more _ _ (λ n r. closed_stays end other r more _ _ (λ s. tt))) (
    cond_stays (eqb opcode 0x42) (i64_expr_at end rest) (Err (Foreign (items.ConstExpr opcode))) (i64_expr_at other (rest ++ more)) (Err (Foreign (items.ConstExpr opcode)))
    (bind_stays _ s64_at s64_reader s64_stays end other rest more _ _ (λ n r. closed_stays end other r more _ _ (λ s. tt)))
    refl))
