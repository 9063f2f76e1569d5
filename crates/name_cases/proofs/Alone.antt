-- An entry can stand beside itself.
use Rattle.std.proofs.Common.{◌≡◌, ℕ, Bool, true, false, not, ◌&&◌, ◌||◌, List, [], ◌∷◌, Option, Some, None, refl, ap, eq-eqb}
use Rattle.std.specs.Str.{bytes_eq}
use Rattle.std.specs.Cmp.Lexicographic.{pointwise}
use Rattle.std.proofs.lemmas.Slice.Eq.{bytes_eq-Decides}
use Rattle.name_entries.specs.wasm_types.Same.{same_val, same_bool}
use Rattle.name_entries.specs.wasm_types.Types.{val_byte}
use Rattle.name_entries.specs.wasm_types.declared.value.ValType.{ValType}
use Rattle.name_entries.specs.linking_section.declared.symbol.SymbolKind.TheVariants.{Function}
use Rattle.name_entries.specs.name_rules.Entries.{InputSymbol, ImportKey, SymbolType, of_function, of_global, untyped, is_kind, same_symbol_type}
use Rattle.name_entries.specs.name_rules.Cases.{differ, explicit_import, may_differ, breaks}
use Rattle.name_cases.specs.declared.question.Question.{Question}
use Rattle.name_cases.specs.declared.question.Question.TheVariants.{Clashes, Duplicates, Imports, Judged, Mismatches, Definitions}
use Rattle.name_cases.specs.Search.{contradicts}

-- types
same_values : (xs : List ValType) → pointwise same_val xs xs ≡ true
same_values [] = refl
same_values (x ∷ xs) = rw (eq-eqb (val_byte x) (val_byte x) refl) (same_values xs)

same_flag : (b : Bool) → same_bool b b ≡ true
same_flag true = refl
same_flag false = refl

same_type_of : (t : SymbolType) → same_symbol_type t t ≡ true
same_type_of (of_function t) = rw (same_values t.params) (same_values t.results)
same_type_of (of_global t) = rw (eq-eqb (val_byte t.kind) (val_byte t.kind) refl) (same_flag t.var)
same_type_of untyped = refl

-- entries
same_bytes : (xs : List ℕ) → bytes_eq xs xs ≡ true
same_bytes xs = (bytes_eq-Decides xs xs).1 refl

same_key : (k : Option ImportKey) → differ k k ≡ false
same_key None = refl
same_key (Some k) = rw (same_bytes k.module_name, same_bytes k.field) refl

kind_of : (e : InputSymbol) → is_kind e.symbol.kind e ≡ true
kind_of e = eq-eqb _ _ refl

or_true : (b : Bool) → (b || true) ≡ true
or_true true = refl
or_true false = refl

not_beside_itself : (a b : Bool) → (a && b && not b) ≡ false
not_beside_itself true true = refl
not_beside_itself true false = refl
not_beside_itself false b = refl

unbroken : (e : InputSymbol) → breaks e e ≡ false
unbroken e = rw (kind_of e, same_type_of e.type, or_true (may_differ e e)) refl

pub stands_alone : (q : Question) (e : InputSymbol) → contradicts q e e ≡ false
stands_alone Clashes e = rw (kind_of e, same_type_of e.type) (same_key (explicit_import e))
stands_alone Duplicates e = rw (eq-eqb e.input e.input refl, eq-eqb e.place e.place refl) refl
stands_alone Imports e = same_key (explicit_import e)
stands_alone Judged e = unbroken e
stands_alone Mismatches e = ap (λ b. b && not (same_symbol_type e.type e.type)) (not_beside_itself (is_kind Function e) e.defines)
stands_alone Definitions e = unbroken e
