-- Types are the same just where they are equal.
use Rattle.std.proofs.Common.{◌≡◌, Bool, true, false, ◌&&◌, List, [], ◌∷◌, refl, sym, ap, ◌∙◌}
use Rattle.std.specs.Prelude.{◌↔◌, IsTrue}
use Rattle.std.specs.Cmp.Lexicographic.{pointwise}
use Rattle.std.proofs.lemmas.Bool.{eqb-true, eq-eqb}
use Rattle.wasm_grammar.specs.ReaderLaws.{ok_is}
use Rattle.wasm_types.specs.declared.value.ValType.{ValType}
use Rattle.wasm_types.specs.declared.function.FuncType.{FuncType}
use Rattle.wasm_types.specs.declared.table.GlobalType.{GlobalType}
use Rattle.wasm_types.specs.Types.{val_byte, val_type_of}
use Rattle.wasm_types.specs.TypeLaws.{val_type_again}
use Rattle.wasm_types.specs.Same.{same_bool, same_val, same_type, same_global_type}

both : (p q : Bool) → IsTrue (p && q) → IsTrue p × IsTrue q
both true q e = (refl, e)
both false q e = absurd cc

both_too : (p q : Bool) → IsTrue p → IsTrue q → IsTrue (p && q)
both_too p q e f = rw (e, f) refl

val_equal : (a b : ValType) → IsTrue (same_val a b) → a ≡ b
val_equal a b e =
    let bytes : val_byte a ≡ val_byte b = eqb-true (val_byte a) (val_byte b) e in
    ok_is (sym (val_type_again 0 a) ∙ ap (val_type_of 0) bytes ∙ val_type_again 0 b)

val_same : (a : ValType) → IsTrue (same_val a a)
val_same a = eq-eqb (val_byte a) (val_byte a) refl

pub same_val_is : (a b : ValType) → IsTrue (same_val a b) ↔ (a ≡ b)
same_val_is a b = (val_equal a b, λ e. rw e (val_same b))

list_equal : (xs ys : List ValType) → IsTrue (pointwise same_val xs ys) → xs ≡ ys
list_equal [] [] e = refl
list_equal [] (y ∷ ys) e = absurd cc
list_equal (x ∷ xs) [] e = absurd cc
list_equal (x ∷ xs) (y ∷ ys) e =
    let two = both (same_val x y) (pointwise same_val xs ys) e in
    rw (val_equal x y two.0, list_equal xs ys two.1) refl

list_same : (xs : List ValType) → IsTrue (pointwise same_val xs xs)
list_same [] = refl
list_same (x ∷ xs) = both_too (same_val x x) (pointwise same_val xs xs) (val_same x) (list_same xs)

func_equal : (a b : FuncType) → IsTrue (same_type a b) → a ≡ b
func_equal a b e =
    let two = both (pointwise same_val a.params b.params) (pointwise same_val a.results b.results) e in
    ap (λ (params : List ValType). let t : FuncType = record { params = params; results = a.results } in t) (list_equal a.params b.params two.0)
    ∙ ap (λ (results : List ValType). let t : FuncType = record { params = b.params; results = results } in t) (list_equal a.results b.results two.1)

pub same_type_is : (a b : FuncType) → IsTrue (same_type a b) ↔ (a ≡ b)
same_type_is a b = (func_equal a b, λ e. rw e (both_too (pointwise same_val b.params b.params) (pointwise same_val b.results b.results) (list_same b.params) (list_same b.results)))

bool_equal : (a b : Bool) → IsTrue (same_bool a b) → a ≡ b
bool_equal true b e = sym e
bool_equal false true e = absurd cc
bool_equal false false e = refl

bool_same : (a : Bool) → IsTrue (same_bool a a)
bool_same true = refl
bool_same false = refl

global_equal : (a b : GlobalType) → IsTrue (same_global_type a b) → a ≡ b
global_equal a b e =
    let two = both (same_val a.kind b.kind) (same_bool a.var b.var) e in
    ap (λ (kind : ValType). let t : GlobalType = record { kind = kind; var = a.var } in t) (val_equal a.kind b.kind two.0)
    ∙ ap (λ (var : Bool). let t : GlobalType = record { kind = b.kind; var = var } in t) (bool_equal a.var b.var two.1)

pub same_global_type_is : (a b : GlobalType) → IsTrue (same_global_type a b) ↔ (a ≡ b)
same_global_type_is a b = (global_equal a b, λ e. rw e (both_too (same_val b.kind b.kind) (same_bool b.var b.var) (val_same b.kind) (bool_same b.var)))
