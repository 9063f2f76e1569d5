-- The symbols of objects with the places of their objects: what the passes look at is what is told of these.
use Rattle.std.proofs.Common.{◌≡◌, ℕ, suc, ◌+◌, ◌<◌, ◌==◌, Bool, true, false, ◌&&◌, List, [], ◌∷◌, ◌++◌, map, flat_map, slice_get, get_or, Some, None, option_map, refl, sym, ap, ◌∙◌, arith}
use Rattle.std.specs.Prelude.{if◌then◌else◌, bytes_eq}
use Rattle.std.specs.List.{AllByRecursion, IsDistinct}
use Rattle.std.proofs.lemmas.Bool.Decides.{nat_tests}
use Rattle.std.proofs.lemmas.List.{map-append}
use Rattle.std.proofs.lemmas.Option.{slice_get-map, get_or_from_slice_get}
use Rattle.link_program.specs.wl_base.Names.{number_of}
use Rattle.link_program.specs.linking_section.declared.symbol.Symbol.{Symbol}
use Rattle.link_program.specs.object_file.declared.object.Object.{Object}
use Rattle.link_program.specs.name_rules.Entries.{InputSymbol, is_entry, is_named, name_of, symbols_of, entries_from, entry_in}
use Rattle.link_program.specs.name_entries.View.{InputsRise, rows_of, entry_at, entry_number, is_number}
use Rattle.link_program.proofs.name_entries_lemmas.Numbers.{number_is}
use Rattle.partial_symbols.specs.declared.facts.Fact.{Fact}
use Rattle.partial_symbols.specs.Facts.{fact_of, facts_rows, facts_of}
use Rattle.partial_symbols.proofs.Lists.{all_both}

-- A symbol, with the place of its object.
pub record Placed : Type 0 where
  pub object : ℕ
  pub entry : InputSymbol

abbrev pub placed_row : ℕ → List InputSymbol → List Placed
placed_row object es = map (λ e. record { object = object; entry = e }) es

abbrev pub placed_rows : ℕ → List (List InputSymbol) → List Placed
placed_rows object [] = []
placed_rows object (r ∷ rows) = placed_row object r ++ placed_rows (object + 1) rows

abbrev pub placed_of : List Object → List Placed
placed_of objects = placed_rows 0 (rows_of objects)

abbrev pub fact_at : List (List ℕ) → Placed → Fact
fact_at names s = fact_of names s.object s.entry

abbrev pub entry_of : Placed → InputSymbol
entry_of s = s.entry

row_facts : (names : List (List ℕ)) (object : ℕ) (es : List InputSymbol) → map (fact_of names object) es ≡ map (fact_at names) (placed_row object es)
row_facts names object [] = refl
row_facts names object (e ∷ es) = ap (λ fs. fact_of names object e ∷ fs) (row_facts names object es)

rows_facts : (names : List (List ℕ)) (object : ℕ) (rows : List (List InputSymbol)) → facts_rows names object rows ≡ map (fact_at names) (placed_rows object rows)
rows_facts names object [] = refl
rows_facts names object (r ∷ rows) =
    ap (λ fs. fs ++ facts_rows names (object + 1) rows) (row_facts names object r)
    ∙ (ap (λ fs. map (fact_at names) (placed_row object r) ++ fs) (rows_facts names (object + 1) rows)
    ∙ sym (map-append (fact_at names) (placed_row object r) (placed_rows (object + 1) rows)))

pub facts_are : (names : List (List ℕ)) (objects : List Object) → facts_of names objects ≡ map (fact_at names) (placed_of objects)
facts_are names objects = rows_facts names 0 (rows_of objects)

row_entries : (object : ℕ) (es : List InputSymbol) → map entry_of (placed_row object es) ≡ es
row_entries object [] = refl
row_entries object (e ∷ es) = ap (λ xs. e ∷ xs) (row_entries object es)

rows_entries : (objects os : List Object) (object : ℕ) → map entry_of (placed_rows object (map (symbols_of objects) os)) ≡ flat_map (symbols_of objects) os
rows_entries objects [] object = refl
rows_entries objects (o ∷ os) object =
    map-append entry_of (placed_row object (symbols_of objects o)) (placed_rows (object + 1) (map (symbols_of objects) os))
    ∙ (ap (λ xs. xs ++ map entry_of (placed_rows (object + 1) (map (symbols_of objects) os))) (row_entries object (symbols_of objects o))
    ∙ ap (λ xs. symbols_of objects o ++ xs) (rows_entries objects os (object + 1)))

pub entries_are : (objects : List Object) → map entry_of (placed_of objects) ≡ flat_map (symbols_of objects) objects
entries_are objects = rows_entries objects objects 0

-- ---- what holds of all symbols

row_all : (P : InputSymbol → Type 0) (object : ℕ) (es : List InputSymbol) → AllByRecursion P es → AllByRecursion (λ (s : Placed). P s.entry) (placed_row object es)
row_all P object [] all = tt
row_all P object (e ∷ es) all = (all.0, row_all P object es all.1)

all_left : {S : Type 0} (P : S → Type 0) (xs ys : List S) → AllByRecursion P (xs ++ ys) → AllByRecursion P xs
all_left P [] ys all = tt
all_left P (x ∷ xs) ys all = (all.0, all_left P xs ys all.1)

all_right : {S : Type 0} (P : S → Type 0) (xs ys : List S) → AllByRecursion P (xs ++ ys) → AllByRecursion P ys
all_right P [] ys all = all
all_right P (x ∷ xs) ys all = all_right P xs ys all.1

rows_all : (P : InputSymbol → Type 0) (objects os : List Object) (object : ℕ) → AllByRecursion P (flat_map (symbols_of objects) os)
    → AllByRecursion (λ (s : Placed). P s.entry) (placed_rows object (map (symbols_of objects) os))
rows_all P objects [] object all = tt
rows_all P objects (o ∷ os) object all =
    all_both (λ (s : Placed). P s.entry) (placed_row object (symbols_of objects o)) (placed_rows (object + 1) (map (symbols_of objects) os))
    (row_all P object (symbols_of objects o) (all_left P (symbols_of objects o) (flat_map (symbols_of objects) os) all))
    (rows_all P objects os (object + 1) (all_right P (symbols_of objects o) (flat_map (symbols_of objects) os) all))

pub all_placed : (P : InputSymbol → Type 0) (objects : List Object) → AllByRecursion P (flat_map (symbols_of objects) objects) → AllByRecursion (λ (s : Placed). P s.entry) (placed_of objects)
all_placed P objects all = rows_all P objects objects 0 all

-- ---- where they stand

module _ (objects : List Object) where
  -- It stands at its place.
  abbrev pub StandsThere : Placed → Type 0
  StandsThere s = entry_at objects s.object s.entry.place ≡ Some s.entry

  from_place : (o : Object) (object place : ℕ) (ss : List Symbol) → ((k : ℕ) (e : InputSymbol) → slice_get (entries_from objects o place ss) k ≡ Some e → entry_at objects object (place + k) ≡ Some e)
      → AllByRecursion StandsThere (placed_row object (entries_from objects o place ss))
  from_place o object place [] there = tt
  from_place o object place (s ∷ ss) there =
      let e : InputSymbol = entry_in objects o place s in
      let none : place ≡ place + 0 = omega arith in (
        ap (entry_at objects object) none ∙ there 0 e refl,
        from_place o object (place + 1) ss (λ k x is. let moved : place + 1 + k ≡ place + suc k = omega arith in ap (entry_at objects object) moved ∙ there (suc k) x is),
      )

  from_object : (os : List Object) (object : ℕ) → ((k : ℕ) (o : Object) → slice_get os k ≡ Some o → slice_get objects (object + k) ≡ Some o)
      → AllByRecursion StandsThere (placed_rows object (map (symbols_of objects) os))
  from_object [] object there = tt
  from_object (o ∷ os) object there =
      let none : object ≡ object + 0 = omega arith in
      let here : slice_get objects object ≡ Some o = ap (slice_get objects) none ∙ there 0 o refl in
      let row : get_or (rows_of objects) object [] ≡ symbols_of objects o = get_or_from_slice_get (rows_of objects) object (symbols_of objects o) [] (slice_get-map (symbols_of objects) objects object ∙ ap (option_map (symbols_of objects)) here) in
      all_both StandsThere (placed_row object (symbols_of objects o)) (placed_rows (object + 1) (map (symbols_of objects) os))
      (from_place o object 0 o.symbols (λ k e is. let plain : 0 + k ≡ k = omega arith in ap (entry_at objects object) plain ∙ (ap (λ r. slice_get r k) row ∙ is)))
      (from_object os (object + 1) (λ k x is. let moved : object + 1 + k ≡ object + suc k = omega arith in ap (slice_get objects) moved ∙ there (suc k) x is))

  pub all_there : AllByRecursion StandsThere (placed_of objects)
  all_there = from_object objects 0 (λ k o is. let plain : 0 + k ≡ k = omega arith in ap (slice_get objects) plain ∙ is)

  -- none of them is of the linker
  input_of : (o : Object) (place : ℕ) (ss : List Symbol) → (o.input == 0) ≡ false → AllByRecursion (λ (e : InputSymbol). (e.input == 0) ≡ false) (entries_from objects o place ss)
  input_of o place [] is = tt
  input_of o place (s ∷ ss) is = (is, input_of o (place + 1) ss is)

  later_inputs : (last : ℕ) (os : List Object) → InputsRise last os → AllByRecursion (λ (e : InputSymbol). (e.input == 0) ≡ false) (flat_map (symbols_of objects) os)
  later_inputs last [] rise = tt
  later_inputs last (o ∷ os) rise =
      let above : last < o.input = rise.0 in
      let some : (o.input == 0) ≡ false = grind (arith, nat_tests) in
      all_both (λ (e : InputSymbol). (e.input == 0) ≡ false) (symbols_of objects o) (flat_map (symbols_of objects) os) (input_of o 0 o.symbols some) (later_inputs o.input os rise.2)

  pub all_of_objects : InputsRise 0 objects → AllByRecursion (λ (e : InputSymbol). (e.input == 0) ≡ false) (flat_map (symbols_of objects) objects)
  all_of_objects rise = later_inputs 0 objects rise

-- ---- an entry of a name, by its number

by_entry : (names : List (List ℕ)) (x name : List ℕ) (n : ℕ) (entry : Bool) → IsDistinct bytes_eq names → slice_get names n ≡ Some name
    → is_number n (if entry then number_of names x else None) ≡ (entry && bytes_eq x name)
by_entry names x name n true differ at = number_is names x name n (bytes_eq x name) differ at refl
by_entry names x name n false differ at = refl

pub entry_is : (names : List (List ℕ)) (name : List ℕ) (n : ℕ) → IsDistinct bytes_eq names → slice_get names n ≡ Some name
    → (e : InputSymbol) → is_number n (entry_number names e) ≡ (is_entry e && is_named name e)
entry_is names name n differ at e = by_entry names (name_of e) name n (is_entry e) differ at
