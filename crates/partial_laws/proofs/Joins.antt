-- The symbols of a link in which one object stands for a run are those of the whole link that are kept, moved.
use Rattle.std.proofs.Common.{◌≡◌, ℕ, ◌+◌, ◌<◌, ◌≤◌, ◌==◌, Bool, true, false, not, ◌&&◌, cond, List, [], ◌∷◌, ◌++◌, map, filter, inl, inr, ⊎_elim, refl, sym, ap, subst, ◌∙◌, arith}
use Rattle.std.specs.Prelude.{if◌then◌else◌, nat_lt, nat_le, Some, unwrap_or, flat_map, All}
use Rattle.std.proofs.lemmas.Bool.{and_parts, eq-eqb, ne_eqb, lt-ltb, le-ltb}
use Rattle.std.proofs.lemmas.Bool.Decides.{nat_tests, eqb_tells}
use Rattle.std.specs.List.{position_from, list_any, list_all}
use Rattle.std.proofs.lemmas.Iterator.Adapters.{position_from-zero}
use Rattle.std.proofs.lemmas.List.{map-append}
use Rattle.std.proofs.lemmas.List.Concat.{flat_map-cons, flat_map-append}
use Rattle.std.proofs.lemmas.List.Elements.{All-head, All-tail, All-cons, All-append, filter-append}
use Rattle.list_places.specs.Has.{Has, Apart}
use Rattle.list_places.proofs.Lists.{apart_filter}
use Rattle.name_rules.specs.object_file.linking_section.declared.symbol.Symbol.{Symbol}
use Rattle.name_rules.specs.object_file.linking_section.Flags.{is_weak, is_local, is_explicit, is_undefined}
use Rattle.name_rules.specs.object_file.declared.object.Object.{Object}
use Rattle.made_symbols.specs.declared.mode.Mode.TheVariants.{Plain}
use Rattle.made_symbols.specs.Made.{MadeSymbol, made}
use Rattle.name_rules.specs.Entries.{InputSymbol, name_of, entry_in, entries_from, symbols_of, made_entry, made_from, is_entry, entries, same_entry}
use Rattle.index_layout.specs.Numbers.{number_by}
use Rattle.link_rules.specs.Program.{Program}
use Rattle.link_rules.specs.Marks.{all_symbols}
use Rattle.partial_rules.specs.Partial.{stands, standing, is_none, object_winner, is_open, open_symbol, defined_index, name_references, symbol_for}
use Rattle.partial_laws.specs.Joining.{Joining, joined}
use Rattle.partial_laws.specs.Inputs.{Run, as_input, later, Objects, whole_objects, later_objects, AreCut}
use Rattle.partial_laws.specs.Standing.{is_of_run, alone_symbol, later_symbol, joined_symbol, joining}
use Rattle.partial_laws.specs.Joined.{SymbolsStand}
use Rattle.partial_laws.proofs.Lists.{none_asked, all_map, both_all, filter_all, filter_of_map, filter_twice, filter_where}
use Rattle.partial_laws.proofs.Same.{entry_itself}
use Rattle.partial_laws.proofs.Flags.{open_undefined}
use Rattle.partial_laws.proofs.Symbols.{all_before, all_behind, all_alone}

-- ---- places of symbols that are apart

eqb_turned : (a b : ℕ) → (a == b) ≡ (b == a)
eqb_turned a b = ⊎_elim
    (λ same. same.0 ∙ sym (eq-eqb b a (sym same.1)))
    (λ other. other.0 ∙ sym (ne_eqb b a (λ e. other.1 (sym e))))
    (eqb_tells a b)

entry_turned : (a b : InputSymbol) → same_entry a b ≡ same_entry b a
entry_turned a b = ap (λ (t : Bool). t && (a.place == b.place)) (eqb_turned a.input b.input) ∙ ap (λ (t : Bool). (b.input == a.input) && t) (eqb_turned a.place b.place)

pub map_has : {A B : Type 0} (f g : A → B) (xs : List A) → ((x : A) → Has xs x → f x ≡ g x) → map f xs ≡ map g xs
map_has f g [] same = refl
map_has f g (x ∷ xs) same = rw (same x (inl refl), map_has f g xs (λ y has. same y (inr has))) refl

no_true : (b : Bool) → (b ≡ true → ⊥) → b ≡ false
no_true true h = absurd (h refl)
no_true false h = refl

-- Symbols of an object that are made of others stand at the places of these.
placed_from : (objects : List Object) (o : Object) (h : InputSymbol → Symbol) (at : ℕ) (xs : List InputSymbol) → Apart same_entry xs
    → entries_from objects o at (map h xs) ≡ map (λ x. entry_in objects o (unwrap_or (position_from (same_entry x) at xs) 0) (h x)) xs
placed_from objects o h at [] apart = refl
placed_from objects o h at (x ∷ xs) apart =
    ap (λ es. entry_in objects o at (h x) ∷ es) (placed_from objects o h (at + 1) xs apart.1)
    ∙ (ap (λ (b : Bool). entry_in objects o (unwrap_or (cond b (Some at) (position_from (same_entry x) (at + 1) xs)) 0) (h x)
    ∷ map (λ y. entry_in objects o (unwrap_or (position_from (same_entry y) (at + 1) xs) 0) (h y)) xs) (sym (entry_itself x))
    ∙ ap (λ es. entry_in objects o (unwrap_or (position_from (same_entry x) at (x ∷ xs)) 0) (h x) ∷ es)
    (map_has (λ y. entry_in objects o (unwrap_or (position_from (same_entry y) (at + 1) xs) 0) (h y)) (λ y. entry_in objects o (unwrap_or (position_from (same_entry y) at (x ∷ xs)) 0) (h y)) xs
    (λ y has. ap (λ (b : Bool). entry_in objects o (unwrap_or (cond b (Some at) (position_from (same_entry y) (at + 1) xs)) 0) (h y))
    (sym (entry_turned y x ∙ no_true (same_entry x y) (apart.0 y has))))))

module _ (j : Joining) where
  pub joined_append : (xs ys : List InputSymbol) → joined j (xs ++ ys) ≡ joined j xs ++ joined j ys
  joined_append xs ys = ap (map j.move) (filter-append j.keep xs ys) ∙ map-append j.move (filter j.keep xs) (filter j.keep ys)

  joined_where : (f : InputSymbol → InputSymbol) (xs : List InputSymbol) → All (λ (e : InputSymbol). (j.keep e ≡ true) × (j.move e ≡ f e)) xs → joined j xs ≡ map f xs
  joined_where f [] all = refl
  joined_where f (x ∷ xs) all =
      let here = All-head (λ (e : InputSymbol). (j.keep e ≡ true) × (j.move e ≡ f e)) x xs all in
      ap (λ (b : Bool). map j.move (cond b (x ∷ filter j.keep xs) (filter j.keep xs))) here.0
      ∙ (ap (λ e. e ∷ joined j xs) here.1 ∙ ap (λ es. f x ∷ es) (joined_where f xs (All-tail (λ (e : InputSymbol). (j.keep e ≡ true) × (j.move e ≡ f e)) x xs all)))

-- ---- inputs

all_from : (objects : List Object) (o : Object) (P : InputSymbol → Type 0) → ((place : ℕ) (s : Symbol) → P (entry_in objects o place s)) → (place : ℕ) (ss : List Symbol) → All P (entries_from objects o place ss)
all_from objects o P each place [] = none_asked P
all_from objects o P each place (s ∷ ss) = All-cons P (entry_in objects o place s) (entries_from objects o (place + 1) ss) (each place s) (all_from objects o P each (place + 1) ss)

pub all_flat : (objects : List Object) (P : InputSymbol → Type 0) (Q : Object → Type 0) → ((o : Object) → Q o → (place : ℕ) (s : Symbol) → P (entry_in objects o place s)) → (os : List Object) → All Q os
    → All P (flat_map (symbols_of objects) os)
all_flat objects P Q each [] all = none_asked P
all_flat objects P Q each (o ∷ os) all =
    subst (All P) (sym (flat_map-cons (symbols_of objects) o os))
    (All-append P (symbols_of objects o) (flat_map (symbols_of objects) os) (all_from objects o P (each o (All-head Q o os all)) 0 o.symbols) (all_flat objects P Q each os (All-tail Q o os all)))

pub all_made : (P : InputSymbol → Type 0) → ((place : ℕ) (m : MadeSymbol) → P (made_entry place m)) → (place : ℕ) (ms : List MadeSymbol) → All P (made_from place ms)
all_made P each place [] = none_asked P
all_made P each place (m ∷ ms) = All-cons P (made_entry place m) (made_from (place + 1) ms) (each place m) (all_made P each (place + 1) ms)

module _ (run : Run) (os : Objects) (p : Program) (cut : AreCut run os) (stand : SymbolsStand run os p) where
  abbrev j : Joining
  j = joining run os p

  abbrev W : List Object
  W = whole_objects os

  abbrev L : List Object
  L = later_objects run os

  abbrev pub Outside : (InputSymbol → InputSymbol) → InputSymbol → Type 0
  Outside f e = (j.keep e ≡ true) × (j.move e ≡ f e)

  -- before the run
  pub not_after : (e : InputSymbol) → e.input ≤ run.first → Outside (λ x. x) e
  not_after e le =
      let no : nat_lt run.first e.input ≡ false = le-ltb run.first e.input le in
      let low : nat_le e.input run.first ≡ true = grind (arith, nat_tests, le) in (
        ap (λ (b : Bool). if b && nat_le e.input (run.first + run.many) then stands p (alone_symbol run os e) else true) no,
        ap (λ (b : Bool). if b && nat_le e.input (run.first + run.many) then joined_symbol run os p (alone_symbol run os e) else (if nat_le e.input run.first then e else later_symbol run os e)) no
            ∙ ap (λ (b : Bool). if b then e else later_symbol run os e) low,
      )

  -- behind it
  and_false : (b : Bool) → (b && false) ≡ false
  and_false true = refl
  and_false false = refl

  pub not_before : (e : InputSymbol) → run.first + run.many < e.input → Outside (later_symbol run os) e
  not_before e lt =
      let no : nat_le e.input (run.first + run.many) ≡ false = grind (arith, nat_tests, lt) in
      let high : nat_le e.input run.first ≡ false = grind (arith, nat_tests, lt) in (
        ap (λ (b : Bool). if nat_lt run.first e.input && b then stands p (alone_symbol run os e) else true) no
            ∙ ap (λ (b : Bool). if b then stands p (alone_symbol run os e) else true) (and_false (nat_lt run.first e.input)),
        ap (λ (b : Bool). if nat_lt run.first e.input && b then joined_symbol run os p (alone_symbol run os e) else (if nat_le e.input run.first then e else later_symbol run os e)) no
            ∙ (ap (λ (b : Bool). if b then joined_symbol run os p (alone_symbol run os e) else (if nat_le e.input run.first then e else later_symbol run os e)) (and_false (nat_lt run.first e.input))
            ∙ ap (λ (b : Bool). if b then e else later_symbol run os e) high),
      )

  -- of it
  abbrev pub Inside : InputSymbol → Type 0
  Inside e = (j.keep e ≡ stands p (alone_symbol run os e)) × (j.move e ≡ joined_symbol run os p (alone_symbol run os e))

  pub of_run : (e : InputSymbol) → run.first < e.input → e.input ≤ run.first + run.many → Inside e
  of_run e gt le =
      let low : nat_lt run.first e.input ≡ true = lt-ltb run.first e.input gt in
      let high : nat_le e.input (run.first + run.many) ≡ true = grind (arith, nat_tests, le) in
      let is : is_of_run run os e ≡ true = ap (λ (b : Bool). b && nat_le e.input (run.first + run.many)) low ∙ high in (
        ap (λ (b : Bool). if b then stands p (alone_symbol run os e) else true) is,
        ap (λ (b : Bool). if b then joined_symbol run os p (alone_symbol run os e) else (if nat_le e.input run.first then e else later_symbol run os e)) is,
      )

  map_self : (xs : List InputSymbol) → map (λ x. x) xs ≡ xs
  map_self [] = refl
  map_self (x ∷ xs) = ap (λ ys. x ∷ ys) (map_self xs)

  -- ---- the symbols of all objects

  joined_before : joined j (flat_map (symbols_of W) os.before) ≡ flat_map (symbols_of L) os.before
  joined_before =
      joined_where j (λ x. x) (flat_map (symbols_of W) os.before) (all_flat W (Outside (λ x. x)) (λ (o : Object). o.input ≤ run.first) (λ o le place s. not_after (entry_in W o place s) le) os.before cut.before)
      ∙ (map_self (flat_map (symbols_of W) os.before) ∙ sym (all_before run os cut))

  joined_behind : joined j (flat_map (symbols_of W) os.behind) ≡ flat_map (symbols_of L) (map (λ (o : Object). as_input (later run o.input) o) os.behind)
  joined_behind =
      joined_where j (later_symbol run os) (flat_map (symbols_of W) os.behind)
      (all_flat W (Outside (later_symbol run os)) (λ (o : Object). run.first + run.many < o.input) (λ o lt place s. not_before (entry_in W o place s) lt) os.behind cut.behind)
      ∙ sym (all_behind run os cut)

  pub all_inside : All Inside (flat_map (symbols_of W) os.middle)
  all_inside =
      all_flat W Inside (λ (o : Object). (run.first < o.input) × (o.input ≤ run.first + run.many)) (λ o b place s. of_run (entry_in W o place s) b.0 b.1) os.middle
      (both_all (λ (o : Object). run.first < o.input) (λ (o : Object). o.input ≤ run.first + run.many) os.middle cut.from cut.to)

  -- what stands in the run alone is what is kept of the run
  pub standing_is : standing p ≡ map (alone_symbol run os) (filter j.keep (flat_map (symbols_of W) os.middle))
  standing_is =
      ap (filter (stands p)) (stand.program ∙ all_alone run os cut stand.found)
      ∙ (filter_of_map (alone_symbol run os) (stands p) (flat_map (symbols_of W) os.middle)
      ∙ ap (map (alone_symbol run os)) (sym (filter_where j.keep (λ e. stands p (alone_symbol run os e)) Inside (λ e is. is.0) (flat_map (symbols_of W) os.middle) all_inside)))

  map_kept : (xs : List InputSymbol) → All Inside xs → map j.move xs ≡ map (joined_symbol run os p) (map (alone_symbol run os) xs)
  map_kept [] all = refl
  map_kept (x ∷ xs) all = rw ((All-head Inside x xs all).1, map_kept xs (All-tail Inside x xs all)) refl

  pub joined_middle : joined j (flat_map (symbols_of W) os.middle) ≡ symbols_of L os.joined
  joined_middle =
      let kept : List InputSymbol = filter j.keep (flat_map (symbols_of W) os.middle) in
      map_kept kept (filter_all Inside j.keep (flat_map (symbols_of W) os.middle) all_inside)
      ∙ (ap (map (joined_symbol run os p)) (sym standing_is)
      ∙ (map_has (joined_symbol run os p) (λ x. entry_in L os.joined (unwrap_or (position_from (same_entry x) 0 (standing p)) 0) (symbol_for p x)) (standing p)
      (λ x has. ap (λ o. entry_in L os.joined (unwrap_or o 0) (symbol_for p x)) (position_from-zero (same_entry x) (standing p)))
      ∙ sym (ap (entries_from L os.joined 0) stand.symbols ∙ placed_from L os.joined (symbol_for p) 0 (standing p) (apart_filter same_entry (stands p) (all_symbols p) stand.apart))))

  -- All symbols of the later link.
  pub symbols_joined : flat_map (symbols_of L) L ≡ joined j (flat_map (symbols_of W) W)
  symbols_joined =
      flat_map-append (symbols_of L) os.before (os.joined ∷ map (λ (o : Object). as_input (later run o.input) o) os.behind)
      ∙ (ap (λ es. flat_map (symbols_of L) os.before ++ es) (flat_map-cons (symbols_of L) os.joined (map (λ (o : Object). as_input (later run o.input) o) os.behind))
      ∙ sym (ap (joined j) (flat_map-append (symbols_of W) os.before (os.middle ++ os.behind) ∙ ap (λ es. flat_map (symbols_of W) os.before ++ es) (flat_map-append (symbols_of W) os.middle os.behind))
      ∙ (joined_append j (flat_map (symbols_of W) os.before) (flat_map (symbols_of W) os.middle ++ flat_map (symbols_of W) os.behind)
      ∙ (ap (λ es. es ++ joined j (flat_map (symbols_of W) os.middle ++ flat_map (symbols_of W) os.behind)) joined_before
      ∙ ap (λ es. flat_map (symbols_of L) os.before ++ es)
      (joined_append j (flat_map (symbols_of W) os.middle) (flat_map (symbols_of W) os.behind)
      ∙ (ap (λ es. es ++ joined j (flat_map (symbols_of W) os.behind)) joined_middle ∙ ap (λ es. symbols_of L os.joined ++ es) joined_behind))))))

  -- ---- the entries of names

  abbrev StaysEntry : InputSymbol → Type 0
  StaysEntry e = is_entry (j.move e) ≡ is_entry e

  -- what stands is an entry where it was
  pub stays_entry : (x : InputSymbol) → is_entry (joined_symbol run os p x) ≡ is_entry x
  stays_entry x = by_open (is_open p x) refl
    where
      by_open : (b : Bool) → is_open p x ≡ b → is_entry (joined_symbol run os p x) ≡ is_entry x
      by_open false o = ap (λ (b : Bool). is_entry (entry_in L os.joined (number_by same_entry (standing p) x) (if b then open_symbol p x else record x.symbol { index = defined_index p x x.symbol.kind }))) o
      by_open true o =
          let undefined : is_undefined (open_symbol p x) ≡ true =
          open_undefined x.symbol.flags (list_all (λ r. is_weak r.symbol) (name_references p (name_of x))) (list_any (λ r. is_explicit r.symbol) (name_references p (name_of x))) in
          ap (λ (b : Bool). is_entry (entry_in L os.joined (number_by same_entry (standing p) x) (if b then open_symbol p x else record x.symbol { index = defined_index p x x.symbol.kind }))) o
          ∙ (ap (λ (b : Bool). not (is_local (open_symbol p x) && not b)) undefined
          ∙ (not_local (is_local (open_symbol p x)) ∙ sym (and_parts (is_entry x) (is_none (object_winner p (name_of x))) o).0))
        where
          not_local : (b : Bool) → not (b && false) ≡ true
          not_local true = refl
          not_local false = refl

  kept_entries : All StaysEntry (filter j.keep (flat_map (symbols_of W) W))
  kept_entries =
      subst (λ es. All StaysEntry (filter j.keep es))
      (sym (flat_map-append (symbols_of W) os.before (os.middle ++ os.behind) ∙ ap (λ es. flat_map (symbols_of W) os.before ++ es) (flat_map-append (symbols_of W) os.middle os.behind)))
      (subst (All StaysEntry) (sym (filter-append j.keep b (m ++ h) ∙ ap (λ es. filter j.keep b ++ es) (filter-append j.keep m h)))
      (All-append StaysEntry (filter j.keep b) (filter j.keep m ++ filter j.keep h) (filter_all StaysEntry j.keep b of_before)
      (All-append StaysEntry (filter j.keep m) (filter j.keep h) of_middle (filter_all StaysEntry j.keep h of_behind))))
    where
      b : List InputSymbol
      b = flat_map (symbols_of W) os.before

      m : List InputSymbol
      m = flat_map (symbols_of W) os.middle

      h : List InputSymbol
      h = flat_map (symbols_of W) os.behind

      of_before : All StaysEntry (flat_map (symbols_of W) os.before)
      of_before = all_flat W StaysEntry (λ (o : Object). o.input ≤ run.first) (λ o le place s. ap (λ e. is_entry e) (not_after (entry_in W o place s) le).1) os.before cut.before

      of_behind : All StaysEntry (flat_map (symbols_of W) os.behind)
      of_behind = all_flat W StaysEntry (λ (o : Object). run.first + run.many < o.input) (λ o lt place s. ap (λ e. is_entry e) (not_before (entry_in W o place s) lt).1) os.behind cut.behind

      kept_inside : All Inside (filter j.keep (flat_map (symbols_of W) os.middle))
      kept_inside = filter_all Inside j.keep (flat_map (symbols_of W) os.middle) all_inside

      of_middle : All StaysEntry (filter j.keep (flat_map (symbols_of W) os.middle))
      of_middle = all_map Inside StaysEntry (λ e is. ap (λ x. is_entry x) is.1 ∙ stays_entry (alone_symbol run os e)) (filter j.keep (flat_map (symbols_of W) os.middle)) kept_inside

  and_turned : (x y : Bool) → (x && y) ≡ (y && x)
  and_turned true true = refl
  and_turned true false = refl
  and_turned false true = refl
  and_turned false false = refl

  entries_of : (xs : List InputSymbol) → All StaysEntry (filter j.keep xs) → filter is_entry (joined j xs) ≡ joined j (filter is_entry xs)
  entries_of xs all =
      filter_of_map j.move is_entry (filter j.keep xs)
      ∙ ap (map j.move) (filter_where (λ e. is_entry (j.move e)) is_entry StaysEntry (λ e is. is) (filter j.keep xs) all
      ∙ (filter_twice is_entry j.keep xs ∙ (turned xs ∙ sym (filter_twice j.keep is_entry xs))))
    where
      turned : (ys : List InputSymbol) → filter (λ x. j.keep x && is_entry x) ys ≡ filter (λ x. is_entry x && j.keep x) ys
      turned [] = refl
      turned (y ∷ ys) = rw (and_turned (j.keep y) (is_entry y), turned ys) refl

  pub joined_made : joined j (made_from 0 (made Plain)) ≡ made_from 0 (made Plain)
  joined_made =
      joined_where j (λ x. x) (made_from 0 (made Plain)) (all_made (Outside (λ x. x)) (λ place m. not_after (made_entry place m) (omega arith)) 0 (made Plain)) ∙ map_self (made_from 0 (made Plain))

  -- The entries of names of the later link.
  pub entries_joined : entries Plain L ≡ joined j (entries Plain W)
  unfolding entries
  entries_joined =
      ap (λ es. made_from 0 (made Plain) ++ filter is_entry es) symbols_joined
      ∙ (ap (λ es. made_from 0 (made Plain) ++ es) (entries_of (flat_map (symbols_of W) W) kept_entries)
      ∙ sym (joined_append j (made_from 0 (made Plain)) (filter is_entry (flat_map (symbols_of W) W))
      ∙ ap (λ es. es ++ joined j (filter is_entry (flat_map (symbols_of W) W))) joined_made))
