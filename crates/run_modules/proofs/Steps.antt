-- Loops over imports of one kind, functions and cells, one step on.
use Rattle.std.proofs.Common.{◌≡◌, ℕ, zero, suc, ◌+◌, ◌<◌, List, [], ◌∷◌, ◌++◌, length, drop, get_or, Option, Some, None, refl, sym, ap, ◌∙◌, append_assoc, length-append}
use Rattle.std.specs.Prelude.{slice_get, filter_map}
use Rattle.std.specs.List.{cons_option}
use Rattle.std.proofs.lemmas.List.{drop_more, drop-drop}
use Rattle.wasm_types.specs.declared.function.FuncType.{FuncType}
use Rattle.wasm_instr.specs.declared.instr.Instr.{Instr}
use Rattle.wasm_instr.specs.declared.body.Body.{Body}
use Rattle.run_rules.specs.declared.op.Op.{Op}
use Rattle.run_rules.specs.declared.world.Function.{Function}
use Rattle.wasm_types.specs.declared.import.Import.{Import}
use Rattle.run_rules.specs.Modules.{GlobalImport, cell_at, typed, defined_functions, imported_global, imported_globals}
use Rattle.run_modules.specs.Cells.{cells_from}
use Rattle.run_modules.specs.Whole.{source_of}

-- what is left of a list from a place on
here : {A : Type 0} (xs : List A) (i : ℕ) (x : A) → i < length xs → x ≡ get_or xs i x → drop i xs ≡ x ∷ drop (i + 1) xs
here {A} xs i x within is = drop_more xs i x within ∙ ap (λ (y : A). let ys : List A = y ∷ drop (i + 1) xs in ys) (sym is)

-- ---- items of one kind

pub picked : {A B : Type 0} (h : A → Option B) (xs : List A) (i : ℕ) (x : A) (y : B) → i < length xs → x ≡ get_or xs i x → h x ≡ Some y → filter_map h (drop i xs) ≡ y ∷ filter_map h (drop (i + 1) xs)
picked {A} {B} h xs i x y within is some =
    ap (filter_map h) (here xs i x within is) ∙ ap (λ (o : Option B). cons_option o (filter_map h (drop (i + 1) xs))) some

pub passed : {A B : Type 0} (h : A → Option B) (xs : List A) (i : ℕ) (x : A) → i < length xs → x ≡ get_or xs i x → h x ≡ None → filter_map h (drop i xs) ≡ filter_map h (drop (i + 1) xs)
passed {A} {B} h xs i x within is none =
    ap (filter_map h) (here xs i x within is) ∙ ap (λ (o : Option B). cons_option o (filter_map h (drop (i + 1) xs))) none

-- ---- functions that are defined

-- by the first body, where there is one
defined_first : (op : Instr → Op) (types : List FuncType) (n : ℕ) (ns : List ℕ) (bodies : List Body) → defined_functions op types (n ∷ ns) bodies ≡ typed (source_of op (slice_get bodies 0)) (slice_get types n) ∷ defined_functions op types ns (drop 1 bodies)
defined_first op types n ns [] = refl
defined_first op types n ns (b ∷ bs) = refl

from_place : {A : Type 0} (xs : List A) (i : ℕ) → slice_get (drop i xs) 0 ≡ slice_get xs i
from_place [] zero = refl
from_place [] (suc i) = refl
from_place (x ∷ xs) zero = refl
from_place (x ∷ xs) (suc i) = from_place xs i

pub defined_more : (op : Instr → Op) (types : List FuncType) (ns : List ℕ) (bodies : List Body) (i d : ℕ) (fn : Option Function) (now new all : List (Option Function)) → i < length ns → fn ≡ typed (source_of op (slice_get bodies i)) (slice_get types (get_or ns i d)) → new ≡ now ++ fn ∷ [] → now ++ defined_functions op types (drop i ns) (drop i bodies) ≡ all → new ++ defined_functions op types (drop (i + 1) ns) (drop (i + 1) bodies) ≡ all
defined_more op types ns bodies i d fn now new all within made push so_far =
    let n : ℕ = get_or ns i d in
    let rest : List (Option Function) = defined_functions op types (drop (i + 1) ns) (drop (i + 1) bodies) in
    let split : defined_functions op types (drop i ns) (drop i bodies) ≡ fn ∷ rest =
    ap (λ (l : List ℕ). defined_functions op types l (drop i bodies)) (drop_more ns i d within)
    ∙ defined_first op types n (drop (i + 1) ns) (drop i bodies)
    ∙ ap (λ (b : Option Body). typed (source_of op b) (slice_get types n) ∷ defined_functions op types (drop (i + 1) ns) (drop 1 (drop i bodies))) (from_place bodies i)
    ∙ ap (λ (l : List Body). typed (source_of op (slice_get bodies i)) (slice_get types n) ∷ defined_functions op types (drop (i + 1) ns) l) (drop-drop 1 i bodies)
    ∙ ap (λ (f : Option Function). f ∷ rest) (sym made) in
    ap (λ (l : List (Option Function)). l ++ rest) push
    ∙ append_assoc now (fn ∷ []) rest
    ∙ ap (λ (l : List (Option Function)). now ++ l) (sym split) ∙ so_far

-- ---- cells of imported globals

pub cells_more : (imports : List Import) (gs : List GlobalImport) (i : ℕ) (x : Import) (g : GlobalImport) (cell : ℕ) (now new all : List ℕ) → i < length imports → x ≡ get_or imports i x → imported_global x x.kind ≡ Some g → cell ≡ cell_at gs (length now) (Some g) → new ≡ now ++ cell ∷ [] → now ++ cells_from gs (length now) (imported_globals (drop i imports)) ≡ all → new ++ cells_from gs (length new) (imported_globals (drop (i + 1) imports)) ≡ all
cells_more imports gs i x g cell now new all within is some here push so_far =
    let rest : List GlobalImport = imported_globals (drop (i + 1) imports) in
    let split : imported_globals (drop i imports) ≡ g ∷ rest = picked (λ (y : Import). imported_global y y.kind) imports i x g within is some in
    let long : length new ≡ length now + 1 = ap length push ∙ length-append now (cell ∷ []) in
    ap (λ (l : List ℕ). l ++ cells_from gs (length new) rest) push
    ∙ ap (λ (n : ℕ). (now ++ cell ∷ []) ++ cells_from gs n rest) long
    ∙ append_assoc now (cell ∷ []) (cells_from gs (length now + 1) rest)
    ∙ ap (λ (c : ℕ). now ++ c ∷ cells_from gs (length now + 1) rest) here
    ∙ ap (λ (l : List GlobalImport). now ++ cells_from gs (length now) l) (sym split) ∙ so_far

pub cells_passed : (imports : List Import) (gs : List GlobalImport) (i : ℕ) (x : Import) (now all : List ℕ) → i < length imports → x ≡ get_or imports i x → imported_global x x.kind ≡ None → now ++ cells_from gs (length now) (imported_globals (drop i imports)) ≡ all → now ++ cells_from gs (length now) (imported_globals (drop (i + 1) imports)) ≡ all
cells_passed imports gs i x now all within is none so_far =
    ap (λ (l : List GlobalImport). now ++ cells_from gs (length now) l) (sym (passed (λ (y : Import). imported_global y y.kind) imports i x within is none)) ∙ so_far
