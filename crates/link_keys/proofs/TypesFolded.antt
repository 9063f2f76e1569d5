-- Types that were added one after another.
use Rattle.std.proofs.Common.{◌≡◌, ℕ, nat_eq, Bool, true, false, ◌||◌, nat_lt, ◌<◌, ◌≤◌, List, [], ◌∷◌, ◌++◌, map, fold, length, take, get_or, ◌+◌, position, Option, Some, None, unwrap_or, refl, sym, ap, subst, ◌∙◌, append_assoc, append-nil, arith}
use Rattle.std.specs.Prelude.{if◌then◌else◌}
use Rattle.std.specs.List.{list_any, All}
use Rattle.std.proofs.lemmas.Bool.Decides.{nat_tests}
use Rattle.std.proofs.Math.Seq.{take-length}
use Rattle.std.proofs.lemmas.List.{map-append, take_more, take-append-le}
use Rattle.std.proofs.lemmas.List.Sums.{fold-append}
use Rattle.std.proofs.lemmas.Option.{slice_get_within}
use Rattle.link_program.specs.wl_base.Choice.{distinct, distinct_onto}
use Rattle.link_program.specs.wasm_types.declared.function.FuncType.{FuncType}
use Rattle.link_program.specs.wasm_types.Same.{same_type}
use Rattle.link_program.specs.type_merge.Types.{merged, with_type, type_number}
use Rattle.link_program.specs.index_layout.Numbers.{number_by}
use Rattle.link_keys.specs.Types.{TypeLists, type_at, type_number_in, with_numbered, window_type, with_windows, no_types}
use Rattle.link_keys.proofs.Any.{or_right}
use Rattle.link_keys.proofs.Equals.{Holds, holds_distinct, stands, number_is}
use Rattle.link_keys.proofs.Positions.{position_none, position_past}
use Rattle.link_keys.proofs.Heard.{onto_append}
use Rattle.link_keys.proofs.Imports.{type_equal, type_itself}
use Rattle.link_keys.proofs.Onto.{number_stays, one_held, mapped_once, onto_stays, onto_more}

table_folded : (x : TypeLists) (ts : List FuncType) → (fold with_numbered x ts).table ≡ distinct_onto same_type x.table ts
table_folded x [] = refl
table_folded x (t ∷ ts) = table_folded (with_numbered x t) ts

numbers_folded : (x : TypeLists) (ts : List FuncType) → (fold with_numbered x ts).numbers ≡ x.numbers ++ map (type_number_in (distinct_onto same_type x.table ts)) ts
numbers_folded x [] = sym (append-nil x.numbers)
numbers_folded x (t ∷ ts) =
    numbers_folded (with_numbered x t) ts
    ∙ append_assoc x.numbers (type_number_in (with_type x.table t) t ∷ []) (map (type_number_in (distinct_onto same_type (with_type x.table t) ts)) ts)
    ∙ ap (λ n. x.numbers ++ (n ∷ map (type_number_in (distinct_onto same_type (with_type x.table t) ts)) ts))
    (sym (number_stays same_type type_equal type_itself (with_type x.table t) ts t (one_held same_type type_equal type_itself x.table t)))

windows_folded : (types table : List FuncType) (ns : List ℕ) → fold (window_type types) table ns ≡ distinct_onto same_type table (map (type_at types) ns)
windows_folded types table [] = refl
windows_folded types table (n ∷ ns) = windows_folded types (window_type types table n) ns

nat_equal : (a b : ℕ) → nat_eq a b ≡ true → a ≡ b
nat_equal a b e = grind (arith, nat_tests)

nat_itself : (a : ℕ) → nat_eq a a ≡ true
nat_itself a = grind (arith, nat_tests)

-- each of these has its number, whatever comes behind
numbers_stay_all : (fs all more : List FuncType) → ((t : FuncType) → list_any (same_type t) fs ≡ true → list_any (same_type t) all ≡ true)
    → map (type_number_in (merged all)) fs ≡ map (type_number_in (merged (all ++ more))) fs
numbers_stay_all [] all more held = refl
numbers_stay_all (t ∷ fs) all more held =
    ap (λ n. n ∷ map (type_number_in (merged all)) fs)
    (sym (number_stays same_type type_equal type_itself (merged all) more t (holds_distinct same_type type_equal type_itself all t (held t (ap (λ b. b || list_any (same_type t) fs) (type_itself t)))))
    ∙ ap (λ table. type_number_in table t) (sym (onto_append same_type [] all more)))
    ∙ ap (λ ns. type_number_in (merged (all ++ more)) t ∷ ns) (numbers_stay_all fs all more (λ u is. held u (or_right (same_type u t) (list_any (same_type u) fs) is)))

-- The types of functions, and then those that windows name: the different ones, and the numbers of those of functions.
pub folded : (fs types : List FuncType) (numbers : List ℕ) (windows : List FuncType) → map (type_at types) numbers ≡ windows
    → with_windows types (fold with_numbered no_types fs) (distinct nat_eq numbers) ≡ record { table = merged (fs ++ windows); numbers = map (type_number_in (merged (fs ++ windows))) fs }
folded fs types numbers windows are =
    let table : fold (window_type types) (fold with_numbered no_types fs).table (distinct nat_eq numbers) ≡ merged (fs ++ windows) =
    ap (λ t. fold (window_type types) t (distinct nat_eq numbers)) (table_folded no_types fs)
    ∙ windows_folded types (merged fs) (distinct nat_eq numbers)
    ∙ mapped_once nat_eq nat_equal nat_itself same_type type_equal type_itself (type_at types) numbers (merged fs)
    ∙ ap (distinct_onto same_type (merged fs)) are
    ∙ sym (onto_append same_type [] fs windows) in
    let ns : (fold with_numbered no_types fs).numbers ≡ map (type_number_in (merged (fs ++ windows))) fs =
    numbers_folded no_types fs ∙ numbers_stay_all fs fs windows (λ t is. is) in
    λ i. record { table = table i; numbers = ns i }

-- what isn't in a list is found behind it
onto_past : (test : FuncType → Bool) (table more : List FuncType) (n : ℕ) → position test (distinct_onto same_type table more) ≡ Some n → list_any test table ≡ false → length table ≤ n
onto_past test table more n at none =
    let s = onto_more same_type type_equal type_itself table more in
    position_past test table s.0 n none (ap (position test) (sym s.1) ∙ at)

-- Numbers in the different types, by numbers in more of them.
pub number_of_more : (table more : List FuncType) (t : FuncType) (n : ℕ) → type_number (distinct_onto same_type table more) t ≡ Some n
    → (if nat_lt n (length table) then n else 0) ≡ type_number_in table t
number_of_more table more t n at = by_held (list_any (same_type t) table) refl
  where
    by_held : (r : Bool) → list_any (same_type t) table ≡ r → (if nat_lt n (length table) then n else 0) ≡ type_number_in table t
    by_held true is =
        let s = stands same_type type_equal type_itself table t is in
        let same : s.at ≡ n = let e : Some s.at ≡ Some n = sym (onto_stays same_type (same_type t) table more s.at s.found) ∙ at in cc in
        let inside : n < length table = let w = slice_get_within table s.at t s.there in subst (λ k. k < length table) same w in
        let passes : nat_lt n (length table) ≡ true = grind (arith, nat_tests) in
        ap (λ b. if b then n else 0) passes ∙ sym (number_is same_type type_equal type_itself table t s.at s.found ∙ same)
    by_held false is =
        let none : position (same_type t) table ≡ None = position_none (same_type t) table is in
        let past : length table ≤ n = onto_past (same_type t) table more n at is in
        let fails : nat_lt n (length table) ≡ false = grind (arith, nat_tests) in
        ap (λ b. if b then n else 0) fails ∙ ap (λ o. unwrap_or o 0) (sym none)

-- types added in turn
added : (table ts : List FuncType) → fold with_type table ts ≡ distinct_onto same_type table ts
added table [] = refl
added table (t ∷ ts) = added (with_type table t) ts

-- Added types stand behind those of the table.
pub front_stays : (table ts : List FuncType) → take (length table) (fold with_type table ts) ≡ table
front_stays table ts =
    let m = onto_more same_type type_equal type_itself table ts in
    ap (take (length table)) (added table ts ∙ m.1) ∙ take-append-le (length table) table m.0 (omega arith) ∙ take-length table

-- One number more of the loop that looks types up.
pub numbers_more : (table types : List FuncType) (i : ℕ) (d : FuncType) → i < length types → (old : List ℕ) (n pushed count : ℕ) (now : List FuncType)
    → old ≡ map (type_number_in table) (take i types) → type_number now (get_or types i d) ≡ Some n → now ≡ fold with_type table (take (i + 1) types)
    → pushed ≡ (if nat_lt n count then n else 0) → count ≡ length table
    → old ++ pushed ∷ [] ≡ map (type_number_in table) (take (i + 1) types)
numbers_more table types i d below old n pushed count now held at is low same =
    let number : pushed ≡ type_number_in table (get_or types i d) =
    low ∙ ap (λ k. if nat_lt n k then n else 0) same
    ∙ number_of_more table (take (i + 1) types) (get_or types i d) n (ap (λ ts. type_number ts (get_or types i d)) (sym (added table (take (i + 1) types)) ∙ sym is) ∙ at) in
    ap (λ ns. ns ++ pushed ∷ []) held
    ∙ ap (λ k. map (type_number_in table) (take i types) ++ k ∷ []) number
    ∙ sym (map-append (type_number_in table) (take i types) (get_or types i d ∷ []))
    ∙ ap (map (type_number_in table)) (sym (take_more types i d below))
