-- The linker-made symbols are the first row.
use Rattle.std.proofs.Common.{◌≡◌, ◌≢◌, ℕ, ◌+◌, ◌-◌, ◌<◌, ◌≤◌, ◌^◌, List, [], ◌∷◌, length, get_or, slice_get, Option, Some, None, Bor, true, refl, sym, ap, ◌∙◌, zero, suc, arith}
use Rattle.std.specs.Option.{option_map}
use Rattle.std.proofs.lemmas.Option.{slice_get-map, slice_get-get_or, slice_get_past}
use Rattle.name_entries.specs.wl_base.Names.{number_of}
use Rattle.name_entries.specs.linking_section.declared.symbol.SymbolKind.{SymbolKind}
use Rattle.name_entries.specs.object_file.declared.object.Object.{Object}
use Rattle.name_entries.specs.made_symbols.declared.mode.Mode.{Mode}
use Rattle.name_entries.specs.made_symbols.declared.roles.Role.TheVariants.{CallCtors}
use Rattle.name_entries.specs.made_symbols.Made.{MadeSymbol, made, made_at, made_function}
use Rattle.name_entries.specs.link_names.Numbered.{Numbered, AreNumbers}
use Rattle.name_entries.specs.name_rules.Entries.{made_entry, made_from}
use Rattle.name_entries.specs.Shown.{Shows}
use Rattle.name_entries.specs.View.{InputsRise, rows_of, entry_at}
use Rattle.name_cases.specs.declared.rows.Spot.{Spot}
use Rattle.name_cases.specs.Rows.{all_rows, symbol_in}

pub length-made : (p : ℕ) (ms : List MadeSymbol) → length (made_from p ms) ≡ length ms
length-made p [] = refl
length-made p (m ∷ ms) = ap suc (length-made (p + 1) ms)

made_place : (p k : ℕ) (ms : List MadeSymbol) (d : MadeSymbol) → k < length ms → slice_get (made_from p ms) k ≡ Some (made_entry (p + k) (get_or ms k d))
made_place p k [] d below = absurd (omega arith)
made_place p zero (m ∷ ms) d below = ap (λ n. Some (made_entry n m)) (omega arith)
made_place p (suc k) (m ∷ ms) d below = made_place (p + 1) k ms d (omega arith) ∙ ap (λ n. Some (made_entry n (get_or ms k d))) (omega arith)

-- the linker-made symbol of a number
pub made_is : (mode : Mode) (k : ℕ) → k < length (made mode) → slice_get (made_from 0 (made mode)) k ≡ Some (made_entry k (made_at mode k))
made_is mode k below = made_place 0 k (made mode) (made_function CallCtors []) below ∙ ap (λ n. Some (made_entry n (made_at mode k))) (omega arith)

pub made_past : (mode : Mode) (k : ℕ) → length (made mode) ≤ k → slice_get (made_from 0 (made mode)) k ≡ None
made_past mode k past = slice_get_past (made_from 0 (made mode)) k (omega (arith, length-made 0 (made mode)))

unwrapped : {A : Type 0} (a : Option A) (b : Option A) → option_map (λ x. Some x) a ≡ Some b → a ≡ b
unwrapped None b h = cc
unwrapped (Some x) b h = cc

-- the number of its name
pub made_number : (mode : Mode) (objects : List Object) (n : Numbered) (k : ℕ) → AreNumbers mode objects n → k < length (made mode) → slice_get n.made k ≡ number_of n.names (made_at mode k).name
made_number mode objects n k numbers below =
    unwrapped (slice_get n.made k) (number_of n.names (made_at mode k).name)
    (sym (slice_get-map {A = ℕ} {B = Option ℕ} (λ x. Some x) n.made k) ∙ ap (λ l. slice_get l k) numbers.made ∙ slice_get-map (λ (m : MadeSymbol). number_of n.names m.name) (made mode) k
    ∙ ap (option_map (λ (m : MadeSymbol). number_of n.names m.name)) (slice_get-get_or (made mode) k (made_function CallCtors []) below))

-- ---- the other rows

pub behind : {A : Type 0} (x : A) (xs : List A) (r : ℕ) (d : A) → r ≢ 0 → get_or (x ∷ xs) r d ≡ get_or xs (r - 1) d
behind x xs zero d other = absurd (other refl)
behind x xs (suc r) d other = ap (λ k. get_or xs k d) (omega arith)

pub row_made : (mode : Mode) (objects : List Object) (s : Spot) → s.row ≡ 0 → symbol_in (all_rows mode objects) s ≡ slice_get (made_from 0 (made mode)) s.place
row_made mode objects s first = ap (λ r. slice_get (get_or (all_rows mode objects) r []) s.place) first

pub row_behind : (mode : Mode) (objects : List Object) (s : Spot) → s.row ≢ 0 → symbol_in (all_rows mode objects) s ≡ entry_at objects (s.row - 1) s.place
row_behind mode objects s other = ap (λ row. slice_get row s.place) (behind (made_from 0 (made mode)) (rows_of objects) s.row [] other)

-- there are fewer objects than inputs may be
pub few : (last : ℕ) (os : List Object) → last < 2 ^ 20 → InputsRise last os → last + length os < 2 ^ 20
few last [] below rise = omega arith
few last (o ∷ os) below rise = let rest = few o.input os rise.1 rise.2 in let step = rise.0 in omega arith

-- ---- what is lent of a linker-made symbol

pub shows_made : (names : List (List ℕ)) (k : ℕ) (m : MadeSymbol) (kind : SymbolKind) (name : Bor (List ℕ)) (number : Option ℕ) (class : ℕ)
    → kind ≡ m.kind → name.now ≡ m.name → number ≡ number_of names m.name → class ≡ m.class
    → Shows names (record { input = 0; place = k; symbol = record { kind = kind; flags = 4; name = Some name; index = 0; offset = 0; size = 0 }; number = number; defines = true; class = class; index = k }) (made_entry k m)
shows_made names k m kind name number class kinds named numbered classes = record {
  input = refl;
  place = refl;
  symbol = λ j. record { kind = kinds j; flags = 4; name = Some (named j); index = 0; offset = 0; size = 0 };
  number = numbered;
  defines = refl;
  class = classes;
  index = refl;
}
