-- Imported globals by their keys, one import on.
use Rattle.std.proofs.Common.{◌≡◌, ℕ, ◌+◌, ◌<◌, Bool, true, false, ◌&&◌, List, ◌∷◌, length, drop, get_or, Option, Some, None, refl, sym, ap, ◌∙◌, position}
use Rattle.std.specs.Prelude.{if◌then◌else◌, unwrap_or, bytes_eq}
use Rattle.std.specs.List.{position_from}
use Rattle.std.proofs.lemmas.Iterator.Adapters.{position_from-zero}
use Rattle.std.proofs.lemmas.Slice.Eq.{bytes_eq-Decides}
use Rattle.indexmap.specs.IndexMap.{IndexMap, get, get_by}
use Rattle.wasm_types.specs.declared.import.Import.{Import}
use Rattle.wasm_types.specs.declared.table.GlobalType.{GlobalType}
use Rattle.wasm_types.specs.Same.{same_val, same_global_type}
use Rattle.wasm_types.specs.SameLaws.{same_global_type_is}
use Rattle.run_rules.specs.Modules.{GlobalImport, same_cell, imported_global, imported_globals}
use Rattle.run_modules.specs.declared.keys.CellKey.{CellKey}
use Rattle.run_modules.specs.Fits.{or_next}
use Rattle.run_modules.specs.Keys.{key_seen, same_key, noted}
use Rattle.run_modules.proofs.Steps.{picked, passed}

-- ---- keys are the same where the imports are that they tell

both : (p q : Bool) → p && q ≡ true → (p ≡ true) × (q ≡ true)
both true q e = (refl, e)
both false q e = absurd cc

abbrev made : List ℕ → List ℕ → GlobalType → GlobalImport
made from field kind = record { from = from; field = field; kind = kind }

cell_equal : (a b : GlobalImport) → same_cell a b ≡ true → a ≡ b
cell_equal a b e =
    let all = both (bytes_eq a.from b.from && bytes_eq a.field b.field) (same_global_type a.kind b.kind) e in
    let names = both (bytes_eq a.from b.from) (bytes_eq a.field b.field) all.0 in
    ap (λ from. made from a.field a.kind) ((bytes_eq-Decides a.from b.from).0 names.0)
    ∙ ap (λ field. made b.from field a.kind) ((bytes_eq-Decides a.field b.field).0 names.1)
    ∙ ap (λ kind. made b.from b.field kind) ((same_global_type_is a.kind b.kind).0 all.1)

cell_itself : (a : GlobalImport) → same_cell a a ≡ true
cell_itself a = rw ((bytes_eq-Decides a.from a.from).1 refl, (bytes_eq-Decides a.field a.field).1 refl) ((same_global_type_is a.kind a.kind).1 refl)

cell_back : (a b : GlobalImport) → same_cell a b ≡ true → same_cell b a ≡ true
cell_back a b e = ap (λ g. same_cell g a) (sym (cell_equal a b e)) ∙ cell_itself a

turned : (p q : Bool) → (p ≡ true → q ≡ true) → (q ≡ true → p ≡ true) → p ≡ q
turned true q there back = sym (there refl)
turned false true there back = back refl
turned false false there back = refl

cell_turned : (a b : GlobalImport) → same_cell a b ≡ same_cell b a
cell_turned a b = turned (same_cell a b) (same_cell b a) (cell_back a b) (cell_back b a)

grouped : (p q r : Bool) → p && (q && r) ≡ (p && q) && r
grouped true q r = refl
grouped false q r = refl

key_same : (a b : CellKey) → same_key a b ≡ same_cell (key_seen a) (key_seen b)
key_same a b = by a.var b.var
  where
    by : (v w : Bool) → same_key (record a { var = v }) (record b { var = w }) ≡ same_cell (key_seen (record a { var = v })) (key_seen (record b { var = w }))
    by true true = grouped (bytes_eq a.«module».now b.«module».now) (bytes_eq a.field.now b.field.now) (same_val a.kind b.kind && true)
    by true false = grouped (bytes_eq a.«module».now b.«module».now) (bytes_eq a.field.now b.field.now) (same_val a.kind b.kind && false)
    by false true = grouped (bytes_eq a.«module».now b.«module».now) (bytes_eq a.field.now b.field.now) (same_val a.kind b.kind && false)
    by false false = grouped (bytes_eq a.«module».now b.«module».now) (bytes_eq a.field.now b.field.now) (same_val a.kind b.kind && true)

-- what a map has for a key it has for one that is the same
get_same : {S : Type 0} (m : IndexMap CellKey ℕ S) (k q : CellKey) → same_key k q ≡ true → get same_key m q ≡ get same_key m k
get_same m k q e =
    let seen : key_seen q ≡ key_seen k = sym (cell_equal (key_seen k) (key_seen q) (sym (key_same k q) ∙ e)) in
    let tests : same_key q ≡ same_key k = λ i z. (key_same q z ∙ ap (λ v. same_cell v (key_seen z)) seen ∙ sym (key_same k z)) i in
    ap (λ (test : CellKey → Bool). get_by test m) tests

-- ---- the loop

noted_rest : (old held : Option ℕ) (same : Bool) (place : ℕ) (rest : Option ℕ) → (same ≡ true → old ≡ held) → or_next (noted held same place old) rest ≡ or_next old (if same then Some place else rest)
noted_rest (Some m) (Some h) same place rest e = refl
noted_rest (Some m) None true place rest e = absurd (let p : Some m ≡ None = e refl in cc)
noted_rest (Some m) None false place rest e = refl
noted_rest None (Some h) true place rest e = absurd (let p : None ≡ Some h = e refl in cc)
noted_rest None (Some h) false place rest e = refl
noted_rest None None true place rest e = refl
noted_rest None None false place rest e = refl

pub key_more : {S : Type 0} (imports : List Import) (i : ℕ) (x : Import) (place : ℕ) (k q : CellKey) (old new : IndexMap CellKey ℕ S) (whole : Option ℕ) → i < length imports → x ≡ get_or imports i x → imported_global x x.kind ≡ Some (key_seen k)
    → get same_key new q ≡ noted (get same_key old k) (same_key k q) place (get same_key old q)
    → or_next (get same_key old q) (position_from (same_cell (key_seen q)) place (imported_globals (drop i imports))) ≡ whole
    → or_next (get same_key new q) (position_from (same_cell (key_seen q)) (place + 1) (imported_globals (drop (i + 1) imports))) ≡ whole
key_more imports i x place k q old new whole within is some step so_far =
    let test : GlobalImport → Bool = same_cell (key_seen q) in
    let rest : Option ℕ = position_from test (place + 1) (imported_globals (drop (i + 1) imports)) in
    let split : imported_globals (drop i imports) ≡ key_seen k ∷ imported_globals (drop (i + 1) imports) = picked (λ (y : Import). imported_global y y.kind) imports i x (key_seen k) within is some in
    let here : same_key k q ≡ test (key_seen k) = key_same k q ∙ cell_turned (key_seen k) (key_seen q) in
    ap (λ (o : Option ℕ). or_next o rest) step
    ∙ noted_rest (get same_key old q) (get same_key old k) (same_key k q) place rest (get_same old k q)
    ∙ ap (λ (b : Bool). or_next (get same_key old q) (if b then Some place else rest)) here
    ∙ ap (λ (l : List GlobalImport). or_next (get same_key old q) (position_from test place l)) (sym split) ∙ so_far

pub key_passed : (imports : List Import) (i : ℕ) (x : Import) (place : ℕ) (q : CellKey) (old whole : Option ℕ) → i < length imports → x ≡ get_or imports i x → imported_global x x.kind ≡ None
    → or_next old (position_from (same_cell (key_seen q)) place (imported_globals (drop i imports))) ≡ whole
    → or_next old (position_from (same_cell (key_seen q)) place (imported_globals (drop (i + 1) imports))) ≡ whole
key_passed imports i x place q old whole within is none so_far =
    ap (λ (l : List GlobalImport). or_next old (position_from (same_cell (key_seen q)) place l)) (sym (passed (λ (y : Import). imported_global y y.kind) imports i x within is none)) ∙ so_far

pub found_only : (o : Option ℕ) → or_next o None ≡ o
found_only (Some n) = refl
found_only None = refl

-- ---- the cell

pub found_cell : (globals : List GlobalImport) (k : CellKey) (o : Option ℕ) (next : ℕ) → o ≡ position_from (same_cell (key_seen k)) 0 globals → unwrap_or o next ≡ unwrap_or (position (same_cell (key_seen k)) globals) next
found_cell globals k o next is = ap (λ (p : Option ℕ). unwrap_or p next) (is ∙ sym (position_from-zero (same_cell (key_seen k)) globals))
