-- The symbols that stand, one after another, and their numbers.
use Rattle.std.proofs.Common.{◌≡◌, ℕ, zero, suc, ◌+◌, ◌<◌, ◌==◌, Bool, true, false, ◌&&◌, cond, nat_lt, List, [], ◌∷◌, ◌++◌, map, filter, flat_map, find, fold, length, slice_get, get_or, position, Option, Some, None, option_map, refl, sym, ap, subst, ◌∙◌, arith, append_assoc, append-nil}
use Rattle.std.specs.Prelude.{if◌then◌else◌, bytes_eq}
use Rattle.std.specs.Option.{option_or}
use Rattle.std.specs.List.{position_or_len, AllByRecursion, IsDistinct}
use Rattle.std.proofs.lemmas.Bool.{eqb-true, eq-eqb}
use Rattle.std.proofs.lemmas.Bool.Decides.{nat_tests}
use Rattle.std.proofs.lemmas.List.{length-append}
use Rattle.std.proofs.lemmas.Option.{slice_get_within, same_Some, none-some}
use Rattle.link_program.specs.linking_section.declared.symbol.Symbol.{Symbol}
use Rattle.link_program.specs.object_file.declared.object.Object.{Object}
use Rattle.link_program.specs.name_rules.Entries.{InputSymbol, is_entry, is_named, same_entry, symbols_of, entries_from, entry_in}
use Rattle.link_program.specs.name_entries.View.{InputsRise, entry_number, is_number}
use Rattle.link_program.specs.link_rules.Program.{Program}
use Rattle.partial_rules.specs.Partial as partial
use Rattle.partial_symbols.specs.declared.facts.Fact.{Fact}
use Rattle.partial_symbols.specs.Facts.{at_of}
use Rattle.partial_symbols.specs.Columns.{changed_at}
use Rattle.partial_symbols.specs.Standing.{Sight, Stood, stands, with_number, without_number, stood, none_stood, all_stood}
use Rattle.partial_symbols.specs.Known.{symbol_there}
use Rattle.partial_symbols.proofs.Lists.{all_both, all_from, and_true}
use Rattle.partial_symbols.proofs.Cells.{firsts_of}
use Rattle.partial_symbols.proofs.Placed.{Placed, fact_at, entry_of, StandsThere, entry_is}

-- ---- first places

shift : (l n : ℕ) → cond (nat_lt (1 + l) (suc n)) (Some (1 + l)) None ≡ option_map suc (cond (nat_lt l n) (Some l) None)
shift l n = grind (arith, nat_tests)

position_next : {A : Type 0} (p : A → Bool) (x : A) (xs : List A) → p x ≡ false → position p (x ∷ xs) ≡ option_map suc (position p xs)
position_next p x xs e = rw e (shift (position_or_len p xs) (length xs))

position_first : {A : Type 0} (p : A → Bool) (x : A) (xs : List A) → p x ≡ true → position p (x ∷ xs) ≡ Some 0
position_first p x xs e = rw e (grind (arith, nat_tests))

none_first : (m : ℕ) → Some m ≡ option_map (λ i. m + i) (Some 0)
none_first m = ap (λ (n : ℕ). Some n) (let e : m ≡ m + 0 = omega arith in e)

one_later : (m : ℕ) (o : Option ℕ) → option_map (λ i. m + 1 + i) o ≡ option_map (λ i. m + i) (option_map suc o)
one_later m None = refl
one_later m (Some i) = ap (λ (n : ℕ). Some n) (let e : m + 1 + i ≡ m + suc i = omega arith in e)

from_none : (o : Option ℕ) → option_map (λ i. 0 + i) o ≡ o
from_none None = refl
from_none (Some i) = ap (λ (n : ℕ). Some n) (let e : 0 + i ≡ i = omega arith in e)

position_none : {A : Type 0} (p : A → Bool) (xs : List A) → AllByRecursion (λ x. p x ≡ false) xs → position p xs ≡ None
position_none p [] none = refl
position_none p (x ∷ xs) none = position_next p x xs none.0 ∙ ap (option_map suc) (position_none p xs none.1)

eq_turned : (a b : ℕ) → (a == b) ≡ (b == a)
eq_turned a b = by (a == b) (b == a) refl refl
  where
    by : (r s : Bool) → (a == b) ≡ r → (b == a) ≡ s → r ≡ s
    by true true h k = refl
    by false false h k = refl
    by true false h k = absurd (let f : true ≡ false = sym (eq-eqb b a (sym (eqb-true a b h))) ∙ k in cc)
    by false true h k = absurd (let f : true ≡ false = sym (eq-eqb a b (sym (eqb-true b a k))) ∙ h in cc)

entry_turned : (a b : InputSymbol) → same_entry a b ≡ same_entry b a
entry_turned a b = let i = eq_turned a.input b.input in let q = eq_turned a.place b.place in λ t. i t && q t

-- ---- what the passes leave

-- A symbol that stands, with its number.
record Numbered : Type 0 where
  fact : Fact
  number : ℕ

module _ (v : Sight) where
  -- by symbol its number, from a number on
  abbrev numbers : ℕ → List Fact → List (Option ℕ)
  numbers m [] = []
  numbers m (f ∷ fs) = if stands v f then Some m ∷ numbers (m + 1) fs else None ∷ numbers m fs

  abbrev numbered : ℕ → List Fact → List Numbered
  numbered m [] = []
  numbered m (f ∷ fs) = if stands v f then record { fact = f; number = m } ∷ numbered (m + 1) fs else numbered m fs

  symbols_left : (s : Stood) (fs : List Fact) → (fold (stood v) s fs).symbols ≡ s.symbols ++ map at_of (filter (stands v) fs)
  symbols_left s [] = sym (append-nil s.symbols)
  symbols_left s (f ∷ fs) = by (stands v f) (λ t. symbols_left t fs)
    where
      by : (b : Bool) → ((t : Stood) → (fold (stood v) t fs).symbols ≡ t.symbols ++ map at_of (filter (stands v) fs)) → (fold (stood v) (if b then with_number s f (length s.symbols) else without_number s) fs).symbols ≡ s.symbols ++ map at_of (cond b (f ∷ filter (stands v) fs) (filter (stands v) fs))
      by true again = again (with_number s f (length s.symbols)) ∙ append_assoc s.symbols (at_of f ∷ []) (map at_of (filter (stands v) fs))
      by false again = again (without_number s)

  one_longer : (s : Stood) (f : Fact) → length (s.symbols ++ at_of f ∷ []) ≡ length s.symbols + 1
  one_longer s f = length-append s.symbols (at_of f ∷ [])

  numbers_left : (s : Stood) (fs : List Fact) → (fold (stood v) s fs).of_symbols ≡ s.of_symbols ++ numbers (length s.symbols) fs
  numbers_left s [] = sym (append-nil s.of_symbols)
  numbers_left s (f ∷ fs) = by (stands v f) (λ t. numbers_left t fs)
    where
      by : (b : Bool) → ((t : Stood) → (fold (stood v) t fs).of_symbols ≡ t.of_symbols ++ numbers (length t.symbols) fs) → (fold (stood v) (if b then with_number s f (length s.symbols) else without_number s) fs).of_symbols
          ≡ s.of_symbols ++ (if b then Some (length s.symbols) ∷ numbers (length s.symbols + 1) fs else None ∷ numbers (length s.symbols) fs)
      by true again =
          again (with_number s f (length s.symbols))
          ∙ (append_assoc s.of_symbols (Some (length s.symbols) ∷ []) (numbers (length (s.symbols ++ at_of f ∷ [])) fs)
          ∙ ap (λ m. s.of_symbols ++ Some (length s.symbols) ∷ numbers m fs) (one_longer s f))
      by false again = again (without_number s) ∙ append_assoc s.of_symbols (None ∷ []) (numbers (length s.symbols) fs)

  abbrev named : List (Option ℕ) → Numbered → List (Option ℕ)
  named ns x = changed_at None (λ o. option_or o (Some x.number)) ns x.fact.number

  names_left : (s : Stood) (fs : List Fact) → (fold (stood v) s fs).of_names ≡ fold named s.of_names (numbered (length s.symbols) fs)
  names_left s [] = refl
  names_left s (f ∷ fs) = by (stands v f) (λ t. names_left t fs)
    where
      by : (b : Bool) → ((t : Stood) → (fold (stood v) t fs).of_names ≡ fold named t.of_names (numbered (length t.symbols) fs)) → (fold (stood v) (if b then with_number s f (length s.symbols) else without_number s) fs).of_names
          ≡ fold named s.of_names (if b then record { fact = f; number = length s.symbols } ∷ numbered (length s.symbols + 1) fs else numbered (length s.symbols) fs)
      by true again =
          again (with_number s f (length s.symbols))
          ∙ ap (λ m. fold named (with_number s f (length s.symbols)).of_names (numbered m fs)) (one_longer s f)
      by false again = again (without_number s)

-- ---- the symbols of the loaded objects differ

abbrev pub Differ : List InputSymbol → Type 0
Differ [] = Unit {0}
Differ (e ∷ es) = AllByRecursion (λ (x : InputSymbol). same_entry x e ≡ false) es × Differ es

differ_both : (xs ys : List InputSymbol) → Differ xs → Differ ys → AllByRecursion (λ x. AllByRecursion (λ y. same_entry y x ≡ false) ys) xs → Differ (xs ++ ys)
differ_both [] ys a b c = b
differ_both (x ∷ xs) ys a b c = (all_both (λ y. same_entry y x ≡ false) xs ys a.0 c.0, differ_both xs ys a.1 b c.1)

other_place : (a b : InputSymbol) → b.place < a.place → same_entry a b ≡ false
other_place a b less = by (a.input == b.input) (let e : (a.place == b.place) ≡ false = grind (arith, nat_tests) in e)
  where
    by : (r : Bool) → (a.place == b.place) ≡ false → (r && (a.place == b.place)) ≡ false
    by true is = is
    by false is = refl

other_input : (a b : InputSymbol) → b.input < a.input → same_entry a b ≡ false
other_input a b less = ap (λ r. r && (a.place == b.place)) (let e : (a.input == b.input) ≡ false = grind (arith, nat_tests) in e)

module _ (objects : List Object) where
  later_places : (o : Object) (e : InputSymbol) (p : ℕ) (ss : List Symbol) → e.place < p → AllByRecursion (λ (x : InputSymbol). same_entry x e ≡ false) (entries_from objects o p ss)
  later_places o e p [] less = tt
  later_places o e p (s ∷ ss) less = (other_place (entry_in objects o p s) e less, later_places o e (p + 1) ss (omega (arith, less)))

  row_differs : (o : Object) (p : ℕ) (ss : List Symbol) → Differ (entries_from objects o p ss)
  row_differs o p [] = tt
  row_differs o p (s ∷ ss) = (later_places o (entry_in objects o p s) (p + 1) ss (omega arith), row_differs o (p + 1) ss)

  above : (last : ℕ) (o : Object) (p : ℕ) (ss : List Symbol) → last < o.input → AllByRecursion (λ (x : InputSymbol). last < x.input) (entries_from objects o p ss)
  above last o p [] less = tt
  above last o p (s ∷ ss) less = (less, above last o (p + 1) ss less)

  all_above : (last : ℕ) (os : List Object) → InputsRise last os → AllByRecursion (λ (x : InputSymbol). last < x.input) (flat_map (symbols_of objects) os)
  all_above last [] rise = tt
  all_above last (o ∷ os) rise =
      let less : last < o.input = rise.0 in
      all_both (λ (x : InputSymbol). last < x.input) (symbols_of objects o) (flat_map (symbols_of objects) os) (above last o 0 o.symbols less)
      (all_from (λ (x : InputSymbol). o.input < x.input) (λ x. last < x.input) (λ x more. omega (arith, less, more)) (flat_map (symbols_of objects) os) (all_above o.input os rise.2))

  before_all : (o : Object) (p : ℕ) (ss : List Symbol) (ys : List InputSymbol) → AllByRecursion (λ (y : InputSymbol). o.input < y.input) ys
      → AllByRecursion (λ x. AllByRecursion (λ y. same_entry y x ≡ false) ys) (entries_from objects o p ss)
  before_all o p [] ys less = tt
  before_all o p (s ∷ ss) ys less =
      (all_from (λ (y : InputSymbol). o.input < y.input) (λ y. same_entry y (entry_in objects o p s) ≡ false) (λ y l. other_input y (entry_in objects o p s) l) ys less, before_all o (p + 1) ss ys less)

  rows_differ : (last : ℕ) (os : List Object) → InputsRise last os → Differ (flat_map (symbols_of objects) os)
  rows_differ last [] rise = tt
  rows_differ last (o ∷ os) rise =
      differ_both (symbols_of objects o) (flat_map (symbols_of objects) os) (row_differs o 0 o.symbols) (rows_differ o.input os rise.2)
      (before_all o 0 o.symbols (flat_map (symbols_of objects) os) (all_above o.input os rise.2))

  pub all_differ : InputsRise 0 objects → Differ (flat_map (symbols_of objects) objects)
  all_differ rise = rows_differ 0 objects rise

-- ---- by the definition

module _ (p : Program) where
  abbrev stands_in : InputSymbol → Bool
  stands_in = partial.stands p

  none_kept : (e : InputSymbol) (es : List InputSymbol) → AllByRecursion (λ (x : InputSymbol). same_entry x e ≡ false) es → position (same_entry e) (filter stands_in es) ≡ None
  none_kept e es differ = position_none (same_entry e) (filter stands_in es) (kept es differ)
    where
      kept : (es : List InputSymbol) → AllByRecursion (λ (x : InputSymbol). same_entry x e ≡ false) es → AllByRecursion (λ x. same_entry e x ≡ false) (filter stands_in es)
      kept [] all = tt
      kept (x ∷ es) all = by (stands_in x) (kept es all.1)
        where
          by : (b : Bool) → AllByRecursion (λ y. same_entry e y ≡ false) (filter stands_in es) → AllByRecursion (λ y. same_entry e y ≡ false) (cond b (x ∷ filter stands_in es) (filter stands_in es))
          by true rest = (entry_turned e x ∙ all.0, rest)
          by false rest = rest

  -- one that doesn't stand has none
  pub absent : (es : List InputSymbol) → Differ es → (k : ℕ) (e : InputSymbol) → slice_get es k ≡ Some e → stands_in e ≡ false → position (same_entry e) (filter stands_in es) ≡ None
  absent [] differ k e at goes = absurd (none-some e at)
  absent (x ∷ es) differ zero e at goes =
      let is : x ≡ e = same_Some x e at in
      ap (λ b. position (same_entry e) (cond b (x ∷ filter stands_in es) (filter stands_in es))) (ap stands_in is ∙ goes)
      ∙ none_kept e es (subst (λ y. AllByRecursion (λ z. same_entry z y ≡ false) es) is differ.0)
  absent (x ∷ es) differ (suc k) e at goes = by (stands_in x) (absent es differ.1 k e at goes)
    where
      pick : (ys : List InputSymbol) (i : ℕ) → AllByRecursion (λ y. same_entry y x ≡ false) ys → slice_get ys i ≡ Some e → same_entry e x ≡ false
      pick [] i all there = absurd cc
      pick (y ∷ ys) zero all there = ap (λ z. same_entry z x) (sym (same_Some y e there)) ∙ all.0
      pick (y ∷ ys) (suc i) all there = pick ys i all.1 there

      by : (b : Bool) → position (same_entry e) (filter stands_in es) ≡ None → position (same_entry e) (cond b (x ∷ filter stands_in es) (filter stands_in es)) ≡ None
      by true rest = position_next (same_entry e) x (filter stands_in es) (pick es k differ.0 at) ∙ ap (option_map suc) rest
      by false rest = rest

module _ (p : Program) (names : List (List ℕ)) (v : Sight) where
  abbrev pub StandAlike : Placed → Type 0
  StandAlike s = stands v (fact_at names s) ≡ partial.stands p s.entry

  abbrev stands_here : InputSymbol → Bool
  stands_here = partial.stands p

  symbols_kept : (ss : List Placed) → AllByRecursion (StandsThere p.objects) ss → AllByRecursion StandAlike ss
      → map (symbol_there p.objects) (map at_of (filter (stands v) (map (fact_at names) ss))) ≡ map Some (filter stands_here (map entry_of ss))
  symbols_kept [] there alike = refl
  symbols_kept (s ∷ ss) there alike = by (stands v (fact_at names s)) (stands_here s.entry) alike.0 (symbols_kept ss there.1 alike.1)
    where
      facts : List Fact
      facts = filter (stands v) (map (fact_at names) ss)

      kept : List InputSymbol
      kept = filter stands_here (map entry_of ss)

      by : (a b : Bool) → a ≡ b → map (symbol_there p.objects) (map at_of facts) ≡ map Some kept
          → map (symbol_there p.objects) (map at_of (cond a (fact_at names s ∷ facts) facts)) ≡ map Some (cond b (s.entry ∷ kept) kept)
      by true true is rest = let h = there.0 in λ i. h i ∷ rest i
      by false false is rest = rest
      by true false is rest = absurd cc
      by false true is rest = absurd cc

  pub symbols_are : (n : ℕ) (ss : List Placed) → AllByRecursion (StandsThere p.objects) ss → AllByRecursion StandAlike ss
      → map (symbol_there p.objects) (all_stood v n (map (fact_at names) ss)).symbols ≡ map Some (filter stands_here (map entry_of ss))
  symbols_are n ss there alike = ap (map (symbol_there p.objects)) (symbols_left v (none_stood n) (map (fact_at names) ss)) ∙ symbols_kept ss there alike

  -- the number of a symbol
  number_at : (m : ℕ) (ss : List Placed) → AllByRecursion StandAlike ss → Differ (map entry_of ss) → (k : ℕ) (e : InputSymbol) → slice_get (map entry_of ss) k ≡ Some e
      → get_or (numbers v m (map (fact_at names) ss)) k None ≡ option_map (λ i. m + i) (position (same_entry e) (filter stands_here (map entry_of ss)))
  number_at m [] alike differ k e at = absurd cc
  number_at m (s ∷ ss) alike differ zero e at = by (stands v (fact_at names s)) (stands_here s.entry) alike.0
    where
      is : s.entry ≡ e
      is = same_Some s.entry e at

      kept : List InputSymbol
      kept = filter stands_here (map entry_of ss)

      facts : List Fact
      facts = map (fact_at names) ss

      itself : (x : InputSymbol) → same_entry x x ≡ true
      itself x = let i = eq-eqb x.input x.input refl in let q = eq-eqb x.place x.place refl in λ t. i t && q t

      by : (a b : Bool) → a ≡ b
          → get_or (if a then Some m ∷ numbers v (m + 1) facts else None ∷ numbers v m facts) 0 None ≡ option_map (λ i. m + i) (position (same_entry e) (cond b (s.entry ∷ kept) kept))
      by true true same = none_first m ∙ ap (option_map (λ i. m + i)) (sym (position_first (same_entry e) s.entry kept (ap (same_entry e) is ∙ itself e)))
      by false false same =
          ap (option_map (λ i. m + i)) (sym (none_kept p e (map entry_of ss) (subst (λ x. AllByRecursion (λ y. same_entry y x ≡ false) (map entry_of ss)) is differ.0)))
      by true false same = absurd cc
      by false true same = absurd cc
  number_at m (s ∷ ss) alike differ (suc k) e at = by (stands v (fact_at names s)) (stands_here s.entry) alike.0 (λ n. number_at n ss alike.1 differ.1 k e at)
    where
      kept : List InputSymbol
      kept = filter stands_here (map entry_of ss)

      facts : List Fact
      facts = map (fact_at names) ss

      pick : (es : List InputSymbol) (i : ℕ) → AllByRecursion (λ x. same_entry x s.entry ≡ false) es → slice_get es i ≡ Some e → same_entry e s.entry ≡ false
      pick [] i all there = absurd cc
      pick (x ∷ es) zero all there = ap (λ y. same_entry y s.entry) (sym (same_Some x e there)) ∙ all.0
      pick (x ∷ es) (suc i) all there = pick es i all.1 there

      other : same_entry e s.entry ≡ false
      other = pick (map entry_of ss) k differ.0 at

      by : (a b : Bool) → a ≡ b
          → ((n : ℕ) → get_or (numbers v n facts) k None ≡ option_map (λ i. n + i) (position (same_entry e) kept))
          → get_or (if a then Some m ∷ numbers v (m + 1) facts else None ∷ numbers v m facts) (suc k) None ≡ option_map (λ i. m + i) (position (same_entry e) (cond b (s.entry ∷ kept) kept))
      by true true same again =
          again (m + 1)
          ∙ (one_later m (position (same_entry e) kept) ∙ ap (option_map (λ i. m + i)) (sym (position_next (same_entry e) s.entry kept other)))
      by false false same again = again m
      by true false same again = absurd cc
      by false true same again = absurd cc

  pub count_is : (n : ℕ) (ss : List Placed) → length (all_stood v n (map (fact_at names) ss)).of_symbols ≡ length (map entry_of ss)
  count_is n ss = ap length (numbers_left v (none_stood n) (map (fact_at names) ss)) ∙ as_many 0 ss
    where
      as_many : (m : ℕ) (ss : List Placed) → length (numbers v m (map (fact_at names) ss)) ≡ length (map entry_of ss)
      as_many m [] = refl
      as_many m (s ∷ ss) = by (stands v (fact_at names s)) (λ n. as_many n ss)
        where
          by : (b : Bool) → ((n : ℕ) → length (numbers v n (map (fact_at names) ss)) ≡ length (map entry_of ss)) → length (if b then Some m ∷ numbers v (m + 1) (map (fact_at names) ss) else None ∷ numbers v m (map (fact_at names) ss)) ≡ suc (length (map entry_of ss))
          by true again = ap suc (again (m + 1))
          by false again = ap suc (again m)

  pub of_symbols_are : (n : ℕ) (ss : List Placed) → AllByRecursion StandAlike ss → Differ (map entry_of ss) → (k : ℕ) (e : InputSymbol) → slice_get (map entry_of ss) k ≡ Some e
      → get_or (all_stood v n (map (fact_at names) ss)).of_symbols k None ≡ position (same_entry e) (filter stands_here (map entry_of ss))
  of_symbols_are n ss alike differ k e at =
      ap (λ ns. get_or ns k None) (numbers_left v (none_stood n) (map (fact_at names) ss))
      ∙ (number_at 0 ss alike differ k e at
      ∙ from_none (position (same_entry e) (filter stands_here (map entry_of ss))))

  -- the number of the symbol that stands for a name
  module _ (differ : IsDistinct bytes_eq names) (n : ℕ) (name : List ℕ) (at : slice_get names n ≡ Some name) where
    abbrev test : Numbered → Bool
    test x = is_number n x.fact.number && true

    abbrev is_of : InputSymbol → Bool
    is_of x = is_entry x && is_named name x

    same_test : (s : Placed) → (is_number n (fact_at names s).number && true) ≡ is_of s.entry
    same_test s = and_true (is_number n (entry_number names s.entry)) ∙ entry_is names name n differ at s.entry

    first_numbered : (m : ℕ) (ss : List Placed) → AllByRecursion StandAlike ss
        → option_map (λ (x : Numbered). x.number) (find test (numbered v m (map (fact_at names) ss))) ≡ option_map (λ i. m + i) (position is_of (filter stands_here (map entry_of ss)))
    first_numbered m [] alike = refl
    first_numbered m (s ∷ ss) alike = by (stands v (fact_at names s)) (stands_here s.entry) alike.0 (λ n. first_numbered n ss alike.1)
      where
        kept : List InputSymbol
        kept = filter stands_here (map entry_of ss)

        facts : List Fact
        facts = map (fact_at names) ss

        Rest : Type 0
        Rest = (n : ℕ) → option_map (λ (x : Numbered). x.number) (find test (numbered v n facts)) ≡ option_map (λ i. n + i) (position is_of kept)

        by_test : Rest → (c d : Bool) → c ≡ d → is_of s.entry ≡ d
            → option_map (λ (x : Numbered). x.number) (cond c (Some (record { fact = fact_at names s; number = m })) (find test (numbered v (m + 1) facts))) ≡ option_map (λ i. m + i) (position is_of (s.entry ∷ kept))
        by_test again true true same passes = none_first m ∙ ap (option_map (λ i. m + i)) (sym (position_first is_of s.entry kept passes))
        by_test again false false same fails = again (m + 1) ∙ (one_later m (position is_of kept) ∙ ap (option_map (λ i. m + i)) (sym (position_next is_of s.entry kept fails)))
        by_test again true false same passes = absurd cc
        by_test again false true same passes = absurd cc

        by : (a b : Bool) → a ≡ b → Rest
            → option_map (λ (x : Numbered). x.number) (find test (if a then record { fact = fact_at names s; number = m } ∷ numbered v (m + 1) facts else numbered v m facts))
            ≡ option_map (λ i. m + i) (position is_of (cond b (s.entry ∷ kept) kept))
        by true true same again = by_test again (is_number n (fact_at names s).number && true) (is_of s.entry) (same_test s) refl
        by false false same again = again m
        by true false same again = absurd cc
        by false true same again = absurd cc

    pub of_names_are : (ss : List Placed) → AllByRecursion StandAlike ss
        → get_or (all_stood v (length names) (map (fact_at names) ss)).of_names n None ≡ position is_of (filter stands_here (map entry_of ss))
    of_names_are ss alike =
        ap (λ ns. get_or ns n None) (names_left v (none_stood (length names)) (map (fact_at names) ss))
        ∙ (firsts_of None (λ (x : Numbered). x.fact.number) (λ (x : Numbered) (o : Option ℕ). option_or o (Some x.number)) (λ (o : Option ℕ). o) (λ (x : Numbered). true) (λ (x : Numbered). x.number) (λ x o. refl) (length names) (numbered v 0 (map (fact_at names) ss)) n refl (slice_get_within names n name at)
        ∙ (first_numbered 0 ss alike ∙ from_none (position is_of (filter stands_here (map entry_of ss)))))
