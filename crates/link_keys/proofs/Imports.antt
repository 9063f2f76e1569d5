-- Imports and types that are the same are equal.
use Rattle.std.proofs.Common.{◌≡◌, ℕ, Bool, true, false, ◌&&◌, ◌∙◌, List, refl, ap, sym}
use Rattle.std.specs.Prelude.{bytes_eq}
use Rattle.std.proofs.lemmas.Slice.Eq.{bytes_eq-Decides}
use Rattle.link_program.specs.wasm_types.declared.function.FuncType.{FuncType}
use Rattle.link_program.specs.wasm_types.Same.{same_type}
use Rattle.link_program.specs.wasm_types.SameLaws.{same_type_is, same_global_type_is}
use Rattle.link_program.specs.name_rules.Entries.{SymbolType, of_function, of_global, untyped, ImportKey, same_symbol_type, same_import}

pub both : (p q : Bool) → p && q ≡ true → (p ≡ true) × (q ≡ true)
both true q e = (refl, e)
both false q e = absurd cc

symbol_type_equal : (a b : SymbolType) → same_symbol_type a b ≡ true → a ≡ b
symbol_type_equal (of_function a) (of_function b) e = ap of_function ((same_type_is a b).0 e)
symbol_type_equal (of_function a) (of_global b) e = absurd cc
symbol_type_equal (of_function a) untyped e = absurd cc
symbol_type_equal (of_global a) (of_function b) e = absurd cc
symbol_type_equal (of_global a) (of_global b) e = ap of_global ((same_global_type_is a b).0 e)
symbol_type_equal (of_global a) untyped e = absurd cc
symbol_type_equal untyped (of_function b) e = absurd cc
symbol_type_equal untyped (of_global b) e = absurd cc
symbol_type_equal untyped untyped e = refl

symbol_type_same : (a : SymbolType) → same_symbol_type a a ≡ true
symbol_type_same (of_function a) = (same_type_is a a).1 refl
symbol_type_same (of_global a) = (same_global_type_is a a).1 refl
symbol_type_same untyped = refl

abbrev key_made : List ℕ → List ℕ → SymbolType → ImportKey
key_made place field type = record { module_name = place; field = field; type = type }

pub import_equal : (a b : ImportKey) → same_import a b ≡ true → a ≡ b
import_equal a b e =
    let all = both (bytes_eq a.module_name b.module_name && bytes_eq a.field b.field) (same_symbol_type a.type b.type) e in
    let names = both (bytes_eq a.module_name b.module_name) (bytes_eq a.field b.field) all.0 in
    ap (λ place. key_made place a.field a.type) ((bytes_eq-Decides a.module_name b.module_name).0 names.0)
    ∙ ap (λ field. key_made b.module_name field a.type) ((bytes_eq-Decides a.field b.field).0 names.1)
    ∙ ap (λ type. key_made b.module_name b.field type) (symbol_type_equal a.type b.type all.1)

pub import_itself : (a : ImportKey) → same_import a a ≡ true
import_itself a = rw ((bytes_eq-Decides a.module_name a.module_name).1 refl, (bytes_eq-Decides a.field a.field).1 refl) (symbol_type_same a.type)

pub name_equal : (a b : List ℕ) → bytes_eq a b ≡ true → a ≡ b
name_equal a b e = (bytes_eq-Decides a b).0 e

pub name_itself : (a : List ℕ) → bytes_eq a a ≡ true
name_itself a = (bytes_eq-Decides a a).1 refl

pub type_equal : (a b : FuncType) → same_type a b ≡ true → a ≡ b
type_equal a b e = (same_type_is a b).0 e

pub type_itself : (a : FuncType) → same_type a a ≡ true
type_itself a = (same_type_is a a).1 refl
