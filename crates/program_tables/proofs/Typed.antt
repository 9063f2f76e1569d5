-- Numbers of types, and where an object's bytes lie.
use Rattle.std.proofs.Common.{◌≡◌, ℕ, zero, suc, ◌+◌, ◌-◌, ◌<◌, true, false, cond, ◌∙◌, List, [], ◌∷◌, refl, ap, sym, subst, arith, Option, Some, None, length, get_or}
use Rattle.std.specs.Prelude.{◌==◌, slice_get, map, find, option_map, unwrap_or}
use Rattle.std.proofs.lemmas.Bool.{eq-eqb}
use Rattle.std.proofs.lemmas.Bool.Decides.{nat_tests}
use Rattle.std.proofs.lemmas.Option.{same_Some, slice_get_within, get_or_from_slice_get, slice_get-map, unwrap_or-slice_get}
use Rattle.link_program.specs.wl_base.declared.span.Span.{Span}
use Rattle.link_program.specs.wasm_types.declared.function.FuncType.{FuncType}
use Rattle.link_program.specs.object_file.declared.object.Object.{Object}
use Rattle.link_program.specs.object_file.Spaces.{no_type, written_type}
use Rattle.link_program.specs.round_rules.Rounds.{Candidate}
use Rattle.link_program.specs.link_rules.Program.{span_in, span_of}
use Rattle.link_program.specs.declared.home.Home.{Home}
use Rattle.link_program.specs.Loaded.{home_of}
use Rattle.program_tables.specs.Types.{AreTyped}
use Rattle.program_tables.specs.Views.{source_from}

-- ---- types

-- The number names the type.
pub record IsNumberOf (types : List FuncType) (number : ℕ) (t : FuncType) : Type 0 where
  pub is : get_or types number no_type ≡ t
  pub below : number < length types

of_get : (types : List FuncType) (number : ℕ) (t : FuncType) → slice_get types number ≡ Some t → IsNumberOf types number t
of_get types number t at = record { is = get_or_from_slice_get types number t no_type at; below = slice_get_within types number t at }

by_place : (types : List FuncType) (these : List FuncType) (index : ℕ) (n : Option ℕ) (t : Option FuncType) → slice_get types 0 ≡ Some no_type
    → option_map (slice_get types) n ≡ option_map Some t → IsNumberOf types (unwrap_or n 0) (unwrap_or t no_type)
by_place types these index None None first same = of_get types 0 no_type first
by_place types these index None (Some t) first same = absurd cc
by_place types these index (Some n) None first same = absurd cc
by_place types these index (Some n) (Some t) first same = of_get types n t (same_Some (slice_get types n) (Some t) same)

row_numbers : (types : List FuncType) (row : List ℕ) (these : List FuncType) (index : ℕ) → slice_get types 0 ≡ Some no_type → map (slice_get types) row ≡ map Some these
    → IsNumberOf types (get_or row index 0) (get_or these index no_type)
row_numbers types row these index first same =
    let at : option_map (slice_get types) (slice_get row index) ≡ option_map Some (slice_get these index) =
    sym (slice_get-map (slice_get types) row index) ∙ ap (λ l. slice_get l index) same ∙ slice_get-map Some these index in
    subst (λ n. IsNumberOf types n (get_or these index no_type)) (unwrap_or-slice_get row index 0)
    (subst (IsNumberOf types (unwrap_or (slice_get row index) 0)) (unwrap_or-slice_get these index no_type)
    (by_place types these index (slice_get row index) (slice_get these index) first at))

row_same : (types : List FuncType) (row : Option (List ℕ)) (these : List FuncType) → option_map (map (slice_get types)) row ≡ Some (map Some these)
    → map (slice_get types) (unwrap_or row []) ≡ map Some these
row_same types None these same = absurd cc
row_same types (Some row) these same = same_Some (map (slice_get types) row) (map Some these) same

pub type_is : (types : List FuncType) (numbers : List (List ℕ)) (objects : List Object) (i : ℕ) (o : Object) (index : ℕ) → AreTyped types numbers objects → slice_get objects i ≡ Some o
    → IsNumberOf types (get_or (get_or numbers i []) index 0) (written_type o index)
type_is types numbers objects i o index typed at =
    let row : option_map (map (slice_get types)) (slice_get numbers i) ≡ Some (map Some o.types) =
    sym (slice_get-map (map (slice_get types)) numbers i) ∙ ap (λ l. slice_get l i) typed.each ∙ slice_get-map (λ (x : Object). map Some x.types) objects i
    ∙ ap (option_map (λ (x : Object). map Some x.types)) at in
    row_numbers types (get_or numbers i []) o.types index typed.first
    (subst (λ r. map (slice_get types) r ≡ map Some o.types) (unwrap_or-slice_get numbers i []) (row_same types (slice_get numbers i) o.types row))

-- ---- homes

abbrev pub Numbered : ℕ → List Candidate → Type 0
Numbered from all = (i : ℕ) (c : Candidate) → slice_get all i ≡ Some c → c.input ≡ i + from

find_from : (from : ℕ) (all : List Candidate) (input k : ℕ) → Numbered from all → input ≡ k + from → find (λ (c : Candidate). c.input == input) all ≡ slice_get all k
find_from from [] input k numbered is = refl
find_from from (c ∷ all) input zero numbered is =
    let own : c.input ≡ 0 + from = numbered 0 c refl in
    let hit : (c.input == input) ≡ true = eq-eqb c.input input (omega arith) in
    ap (λ b. cond b (Some c) (find (λ (x : Candidate). x.input == input) all)) hit
find_from from (c ∷ all) input (suc k) numbered is =
    let own : c.input ≡ 0 + from = numbered 0 c refl in
    let apart : c.input < input = omega arith in
    let missed : (c.input == input) ≡ false = grind (arith, nat_tests) in
    ap (λ b. cond b (Some c) (find (λ (x : Candidate). x.input == input) all)) missed
    ∙ find_from (from + 1) all input k (λ i x at. let e : suc i + from ≡ i + (from + 1) = omega arith in numbered (suc i) x at ∙ e) (omega arith)

source_same : (c : Option Candidate) (s : Span) → source_from (option_map home_of c) s ≡ span_in c s
source_same None s = refl
source_same (Some c) s = refl

pub source_is : (homes : List Home) (all : List Candidate) (input : ℕ) (s : Span) → homes ≡ map home_of all → Numbered 1 all → 0 < input
    → source_from (slice_get homes (input - 1)) s ≡ span_of all input s
source_is homes all input s are numbered some =
    ap (λ l. source_from (slice_get l (input - 1)) s) are
    ∙ ap (λ h. source_from h s) (slice_get-map home_of all (input - 1))
    ∙ source_same (slice_get all (input - 1)) s
    ∙ ap (λ c. span_in c s) (sym (find_from 1 all input (input - 1) numbered (omega arith)))
