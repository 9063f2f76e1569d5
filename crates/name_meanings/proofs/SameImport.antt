-- Imports are compared as their definition says.
use Rattle.std.proofs.Common.{◌≡◌, ℕ, Bool, true, false, ◌&&◌, ◌∙◌, List, [], ◌∷◌, ◌++◌, refl, ap, sym, Some}
use Rattle.std.specs.Prelude.{map, slice_get, if◌then◌else◌, bytes_eq, option_map}
use Rattle.std.specs.List.{list_any}
use Rattle.std.proofs.lemmas.Option.{slice_get-map}
use Rattle.std.proofs.lemmas.Slice.Eq.{bytes_eq-Decides}
use Rattle.name_entries.specs.wasm_types.SameLaws.{same_type_is, same_global_type_is}
use Rattle.name_entries.specs.name_rules.Entries.{SymbolType, of_function, of_global, untyped, ImportKey, same_symbol_type, same_import}
use Rattle.name_meanings.specs.declared.imports.ImportType.{ImportType}
use Rattle.name_meanings.specs.declared.imports.ImportType.TheVariants.{Function, GlobalVar, Untyped}
use Rattle.name_meanings.specs.declared.imports.OutputImport.{OutputImport}
use Rattle.name_meanings.specs.contracts.imports.OutputImportPartialEq.TheImpl as import_eq
use Rattle.name_meanings.specs.contracts.imports.ImportTypePartialEq.TheImpl as type_eq
use Rattle.name_meanings.specs.Kept.{type_kept, import_of, with_import}

pub type_same : (a b : ImportType) → (type_eq.eq-value).it a b ≡ same_symbol_type (type_kept a) (type_kept b)
type_same (Function a) (Function b) = refl
type_same (Function a) (GlobalVar kind var) = refl
type_same (Function a) Untyped = refl
type_same (GlobalVar kind var) (Function b) = refl
type_same (GlobalVar kind true) (GlobalVar other true) = refl
type_same (GlobalVar kind true) (GlobalVar other false) = refl
type_same (GlobalVar kind false) (GlobalVar other true) = refl
type_same (GlobalVar kind false) (GlobalVar other false) = refl
type_same (GlobalVar kind var) Untyped = refl
type_same Untyped (Function b) = refl
type_same Untyped (GlobalVar kind var) = refl
type_same Untyped Untyped = refl

grouped : (p q r : Bool) → p && (q && r) ≡ (p && q) && r
grouped true q r = refl
grouped false q r = refl

pub import_same : (a b : OutputImport) → (import_eq.eq-value).it a b ≡ same_import (import_of a) (import_of b)
import_same a b =
    ap (λ r. bytes_eq a.«module» b.«module» && (bytes_eq a.field b.field && r)) (type_same a.kind b.kind)
    ∙ grouped (bytes_eq a.«module» b.«module») (bytes_eq a.field b.field) (same_symbol_type (type_kept a.kind) (type_kept b.kind))

-- ---- what is the same is equal

both : (p q : Bool) → p && q ≡ true → (p ≡ true) × (q ≡ true)
both true q e = (refl, e)
both false q e = absurd cc

symbol_type_equal : (a b : SymbolType) → same_symbol_type a b ≡ true → a ≡ b
symbol_type_equal (of_function a) (of_function b) e = ap of_function ((same_type_is a b).0 e)
symbol_type_equal (of_function a) (of_global b) e = absurd cc
symbol_type_equal (of_function a) untyped e = absurd cc
symbol_type_equal (of_global a) (of_function b) e = absurd cc
symbol_type_equal (of_global a) (of_global b) e = ap of_global ((same_global_type_is a b).0 e)
symbol_type_equal (of_global a) untyped e = absurd cc
symbol_type_equal untyped (of_function b) e = absurd cc
symbol_type_equal untyped (of_global b) e = absurd cc
symbol_type_equal untyped untyped e = refl

symbol_type_same : (a : SymbolType) → same_symbol_type a a ≡ true
symbol_type_same (of_function a) = (same_type_is a a).1 refl
symbol_type_same (of_global a) = (same_global_type_is a a).1 refl
symbol_type_same untyped = refl

abbrev key_made : List ℕ → List ℕ → SymbolType → ImportKey
key_made place field type = record { module_name = place; field = field; type = type }

pub import_equal : (a b : ImportKey) → same_import a b ≡ true → a ≡ b
import_equal a b e =
    let all = both (bytes_eq a.module_name b.module_name && bytes_eq a.field b.field) (same_symbol_type a.type b.type) e in
    let names = both (bytes_eq a.module_name b.module_name) (bytes_eq a.field b.field) all.0 in
    ap (λ place. key_made place a.field a.type) ((bytes_eq-Decides a.module_name b.module_name).0 names.0)
    ∙ ap (λ field. key_made b.module_name field a.type) ((bytes_eq-Decides a.field b.field).0 names.1)
    ∙ ap (λ type. key_made b.module_name b.field type) (symbol_type_equal a.type b.type all.1)

pub import_itself : (a : ImportKey) → same_import a a ≡ true
import_itself a = rw ((bytes_eq-Decides a.module_name a.module_name).1 refl, (bytes_eq-Decides a.field a.field).1 refl) (symbol_type_same a.type)

-- ---- one more import

abbrev kept_eq : OutputImport → OutputImport → Bool
kept_eq = (import_eq.eq-value).it

any_same : (k : OutputImport) (ks : List OutputImport) → list_any (kept_eq k) ks ≡ list_any (same_import (import_of k)) (map import_of ks)
any_same k [] = refl
any_same k (x ∷ xs) = rw (import_same k x, any_same k xs) refl

map_append_one : (ks : List OutputImport) (k : OutputImport) → map import_of (ks ++ k ∷ []) ≡ map import_of ks ++ import_of k ∷ []
map_append_one [] k = refl
map_append_one (x ∷ xs) k = ap (λ r. import_of x ∷ r) (map_append_one xs k)

by_held : (ks : List OutputImport) (k : OutputImport) (held : Bool) → map import_of (if held then ks else ks ++ k ∷ []) ≡ (if held then map import_of ks else map import_of ks ++ import_of k ∷ [])
by_held ks k true = refl
by_held ks k false = map_append_one ks k

pub inserted : (old new : List OutputImport) (k : OutputImport) → new ≡ (if list_any (kept_eq k) old then old else old ++ k ∷ []) → map import_of new ≡ with_import (map import_of old) (import_of k)
inserted old new k is =
    ap (map import_of) is ∙ by_held old k (list_any (kept_eq k) old)
    ∙ ap (λ held. if held then map import_of old else map import_of old ++ import_of k ∷ []) (any_same k old)

pub stored : (ks : List OutputImport) (n : ℕ) (k x : OutputImport) → slice_get ks n ≡ Some x → kept_eq k x ≡ true → slice_get (map import_of ks) n ≡ Some (import_of k)
stored ks n k x at same =
    slice_get-map import_of ks n ∙ ap (option_map import_of) at ∙ ap Some (sym (import_equal (import_of k) (import_of x) (sym (import_same k x) ∙ same)))
