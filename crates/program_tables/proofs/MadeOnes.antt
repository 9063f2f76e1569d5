-- The linker-made symbols by number.
use Rattle.std.proofs.Common.{◌≡◌, ℕ, zero, suc, ◌+◌, ◌<◌, ◌≤◌, ◌^◌, ◌∙◌, true, List, [], ◌∷◌, refl, ap, sym, arith, Some, length, get_or, nat_lt}
use Rattle.std.specs.Prelude.{slice_get}
use Rattle.std.specs.List.{list_all}
use Rattle.std.proofs.lemmas.Bool.{and_parts, ltb-true}
use Rattle.std.proofs.lemmas.Option.{same_Some, slice_get_within}
use Rattle.link_program.specs.made_symbols.declared.mode.Mode.{Mode}
use Rattle.link_program.specs.made_symbols.declared.mode.Mode.TheVariants.{Plain, Shared}
use Rattle.link_program.specs.made_symbols.Made.{MadeSymbol, made, made_at}
use Rattle.link_program.specs.name_rules.Entries.{InputSymbol, made_entry, made_from}
use Rattle.program_tables.proofs.Lists.{each_at}
use Rattle.program_tables.proofs.There.{OfLinker, linkers_stand}

count_from : (k : ℕ) (ms : List MadeSymbol) → length (made_from k ms) ≡ length ms
count_from k [] = refl
count_from k (m ∷ ms) = ap suc (count_from (k + 1) ms)

pub made_count : (mode : Mode) → length (made_from 0 (made mode)) ≡ length (made mode)
made_count mode = count_from 0 (made mode)

place_from : (start : ℕ) (ms : List MadeSymbol) (k : ℕ) (e : InputSymbol) → slice_get (made_from start ms) k ≡ Some e → e.place ≡ start + k
place_from start [] k e at = let lt = slice_get_within [] k e at in absurd (omega arith)
place_from start (m ∷ ms) zero e at =
    let z : start ≡ start + 0 = omega arith in ap (λ (x : InputSymbol). x.place) (sym (same_Some (made_entry start m) e at)) ∙ z
place_from start (m ∷ ms) (suc k) e at = let z : start + 1 + k ≡ start + suc k = omega arith in place_from (start + 1) ms k e at ∙ z

pub made_row_at : (mode : Mode) (k : ℕ) (e : InputSymbol) → slice_get (made_from 0 (made mode)) k ≡ Some e → e ≡ made_entry k (made_at mode k)
made_row_at mode k e at =
    let stands = each_at (OfLinker mode) (made_from 0 (made mode)) k e (linkers_stand mode) at in
    let place : e.place ≡ k = place_from 0 (made mode) k e at ∙ (let z : 0 + k ≡ k = omega arith in z) in
    stands.is ∙ ap (λ n. made_entry n (made_at mode n)) place

-- ---- classes

pub small_classes : (mode : Mode) → list_all (λ (m : MadeSymbol). nat_lt m.class 3) (made mode) ≡ true
small_classes Plain = refl
small_classes Shared = refl

pub few_made : (mode : Mode) → 0 + length (made mode) ≤ 2 ^ 32
few_made Plain = omega arith
few_made Shared = omega arith

class_at : (ms : List MadeSymbol) (k : ℕ) (d : MadeSymbol) → list_all (λ (m : MadeSymbol). nat_lt m.class 3) ms ≡ true → k < length ms → nat_lt (get_or ms k d).class 3 ≡ true
class_at [] k d small lt = absurd (omega arith)
class_at (m ∷ ms) zero d small lt = (and_parts (nat_lt m.class 3) (list_all (λ (x : MadeSymbol). nat_lt x.class 3) ms) small).0
class_at (m ∷ ms) (suc k) d small lt = class_at ms k d (and_parts (nat_lt m.class 3) (list_all (λ (x : MadeSymbol). nat_lt x.class 3) ms) small).1 (omega arith)

pub made_class : (mode : Mode) (k : ℕ) → k < length (made mode) → (made_at mode k).class < 3
made_class mode k lt = ltb-true (made_at mode k).class 3 (class_at (made mode) k _ (small_classes mode) lt)
