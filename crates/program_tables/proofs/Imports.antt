-- The number of an import among different ones.
use Rattle.std.proofs.Common.{◌≡◌, ℕ, zero, suc, ◌+◌, Bool, true, false, cond, not, ◌∙◌, List, [], ◌∷◌, ◌++◌, refl, ap, sym, arith, Some, None, length, nat_lt}
use Rattle.std.specs.Prelude.{slice_get, if◌then◌else◌, unwrap_or, bytes_eq, ◌&&◌, ◌||◌}
use Rattle.std.specs.List.{list_any, position_or_len}
use Rattle.std.proofs.lemmas.Bool.Decides.{nat_tests}
use Rattle.std.proofs.lemmas.Option.{slice_get_within, get_or_from_slice_get}
use Rattle.std.proofs.lemmas.Slice.Eq.{bytes_eq-Decides}
use Rattle.link_program.specs.wl_base.Choice.{distinct, distinct_onto}
use Rattle.link_program.specs.wasm_types.SameLaws.{same_type_is, same_global_type_is}
use Rattle.link_program.specs.index_layout.Numbers.{number_by}
use Rattle.link_program.specs.name_rules.Entries.{ImportKey, SymbolType, of_function, of_global, untyped, same_import, same_symbol_type}

-- ---- what is the same is equal

symbol_type_same : (a : SymbolType) → same_symbol_type a a ≡ true
symbol_type_same (of_function a) = (same_type_is a a).1 refl
symbol_type_same (of_global a) = (same_global_type_is a a).1 refl
symbol_type_same untyped = refl

import_itself : (a : ImportKey) → same_import a a ≡ true
import_itself a = rw ((bytes_eq-Decides a.module_name a.module_name).1 refl, (bytes_eq-Decides a.field a.field).1 refl) (symbol_type_same a.type)

-- ---- different items

-- the first item is the same as none of the others, and so on
abbrev pub Differ : List ImportKey → Type 0
Differ [] = Unit {0}
Differ (k ∷ ks) = (list_any (λ x. same_import x k) ks ≡ false) × Differ ks

or_false : (p q : Bool) → p || q ≡ false → (p ≡ false) × (q ≡ false)
or_false false q e = (refl, e)
or_false true q e = absurd cc

last_differs : (k x : ImportKey) (ks : List ImportKey) → list_any (λ y. same_import y k) ks ≡ false → same_import x k ≡ false → list_any (λ y. same_import y k) (ks ++ x ∷ []) ≡ false
last_differs k x [] none apart = ap (λ b. b || false) apart
last_differs k x (y ∷ ks) none apart =
    let two = or_false (same_import y k) (list_any (λ z. same_import z k) ks) none in
    ap (λ b. b || list_any (λ z. same_import z k) (ks ++ x ∷ [])) two.0 ∙ last_differs k x ks two.1 apart

differ_more : (ks : List ImportKey) (x : ImportKey) → Differ ks → list_any (same_import x) ks ≡ false → Differ (ks ++ x ∷ [])
differ_more [] x differ none = (refl, tt)
differ_more (k ∷ ks) x differ none =
    let two = or_false (same_import x k) (list_any (same_import x) ks) none in
    (last_differs k x ks differ.0 two.0, differ_more ks x differ.1 two.1)

differ_by : (held : Bool) (ks : List ImportKey) (x : ImportKey) → Differ ks → list_any (same_import x) ks ≡ held → Differ (if held then ks else ks ++ x ∷ [])
differ_by true ks x differ e = differ
differ_by false ks x differ e = differ_more ks x differ e

pub differ_onto : (seen xs : List ImportKey) → Differ seen → Differ (distinct_onto same_import seen xs)
differ_onto seen [] differ = differ
differ_onto seen (x ∷ xs) differ =
    differ_onto (if list_any (same_import x) seen then seen else seen ++ x ∷ []) xs (differ_by (list_any (same_import x) seen) seen x differ refl)

pub all_differ : (xs : List ImportKey) → Differ (distinct same_import xs)
all_differ xs = differ_onto [] xs tt

-- ---- places

any_there : (k : ImportKey) (ks : List ImportKey) (n : ℕ) (x : ImportKey) → list_any (λ y. same_import y k) ks ≡ false → slice_get ks n ≡ Some x → same_import x k ≡ false
any_there k [] n x none at = let lt = slice_get_within [] n x at in absurd (omega arith)
any_there k (y ∷ ks) zero x none at =
    let two = or_false (same_import y k) (list_any (λ z. same_import z k) ks) none in
    ap (λ z. same_import z k) (sym (get_or_from_slice_get (y ∷ ks) zero x x at)) ∙ two.0
any_there k (y ∷ ks) (suc n) x none at =
    let two = or_false (same_import y k) (list_any (λ z. same_import z k) ks) none in
    any_there k ks n x two.1 at

first_place : (ks : List ImportKey) (n : ℕ) (key : ImportKey) → Differ ks → slice_get ks n ≡ Some key → position_or_len (same_import key) ks ≡ n
first_place [] n key differ at = let lt = slice_get_within [] n key at in absurd (omega arith)
first_place (k ∷ ks) zero key differ at =
    let same : k ≡ key = get_or_from_slice_get (k ∷ ks) zero key key at in
    let hit : same_import key k ≡ true = ap (λ x. same_import key x) same ∙ import_itself key in
    ap (λ b. cond (not b) (1 + position_or_len (same_import key) ks) 0) hit
first_place (k ∷ ks) (suc n) key differ at =
    let missed = any_there k ks n key differ.0 at in
    let rest = first_place ks n key differ.1 at in
    ap (λ b. cond (not b) (1 + position_or_len (same_import key) ks) 0) missed ∙ omega (arith, rest)

pub number_is : (keys : List ImportKey) (n : ℕ) (key : ImportKey) → Differ keys → slice_get keys n ≡ Some key → number_by same_import keys key ≡ n
number_is keys n key differ at =
    let first = first_place keys n key differ at in
    let within = slice_get_within keys n key at in
    let below : nat_lt n (length keys) ≡ true = grind (arith, nat_tests) in
    ap (λ k. unwrap_or (cond (nat_lt k (length keys)) (Some k) None) 0) first ∙ ap (λ b. unwrap_or (cond b (Some n) None) 0) below
