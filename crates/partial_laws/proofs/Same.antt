-- The tests of sameness of types, names and imports are equality.
use Rattle.std.proofs.Common.{◌≡◌, ℕ, List, true, false, refl, ap, arith}
use Rattle.std.specs.Prelude.{◌==◌, ◌&&◌, bytes_eq}
use Rattle.std.proofs.lemmas.Bool.{and_from, eq-eqb}
use Rattle.std.proofs.lemmas.Slice.Eq.{bytes_eq-Decides}
use Rattle.name_rules.specs.object_file.wasm_types.SameLaws.{same_type_is, same_global_type_is}
use Rattle.name_rules.specs.Entries.{InputSymbol, ImportKey, SymbolType, of_function, of_global, untyped, same_entry, same_import, same_symbol_type}

no : {P : Type 0} → false ≡ true → P
no h = absurd (grind arith)

pub name_itself : (a : List ℕ) → bytes_eq a a ≡ true
name_itself a = (bytes_eq-Decides a a).1 refl

pub name_equal : (a b : List ℕ) → bytes_eq a b ≡ true → a ≡ b
name_equal a b h = (bytes_eq-Decides a b).0 h

pub type_equal : (a b : SymbolType) → same_symbol_type a b ≡ true → a ≡ b
type_equal (of_function a) (of_function b) h = ap of_function ((same_type_is a b).0 h)
type_equal (of_global a) (of_global b) h = ap of_global ((same_global_type_is a b).0 h)
type_equal untyped untyped h = refl
type_equal _ _ h = no h

pub type_itself : (a : SymbolType) → same_symbol_type a a ≡ true
type_itself (of_function a) = (same_type_is a a).1 refl
type_itself (of_global a) = (same_global_type_is a a).1 refl
type_itself untyped = refl

pub import_itself : (a : ImportKey) → same_import a a ≡ true
import_itself a =
    and_from (bytes_eq a.module_name a.module_name && bytes_eq a.field a.field) (same_symbol_type a.type a.type)
    (and_from (bytes_eq a.module_name a.module_name) (bytes_eq a.field a.field) (name_itself a.module_name) (name_itself a.field)) (type_itself a.type)

pub entry_itself : (a : InputSymbol) → same_entry a a ≡ true
entry_itself a = and_from (a.input == a.input) (a.place == a.place) (eq-eqb a.input a.input refl) (eq-eqb a.place a.place refl)
