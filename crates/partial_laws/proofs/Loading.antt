-- What loaded objects give: symbols that are told apart, in bounds.
use Rattle.std.proofs.Common.{◌≡◌, ℕ, ◌+◌, ◌-◌, ◌^◌, ◌<◌, ◌≤◌, ◌==◌, Bool, true, false, not, ◌&&◌, List, [], ◌∷◌, ◌++◌, map, filter, length, inl, inr, refl, sym, ap, subst, ◌∙◌, arith}
use Rattle.std.specs.Prelude.{nat_lt, if◌then◌else◌, Some, find, flat_map, All}
use Rattle.std.proofs.lemmas.Bool.{and_parts, and_from, eqb-true, eq-eqb, ne_eqb}
use Rattle.std.proofs.lemmas.Bool.Decides.{nat_tests}
use Rattle.std.specs.List.{list_all}
use Rattle.std.proofs.lemmas.List.Concat.{flat_map-cons}
use Rattle.std.proofs.lemmas.List.Elements.{All-head, All-tail, All-cons, All-append}
use Rattle.list_places.specs.Has.{Has, Apart}
use Rattle.list_places.proofs.Lists.{all_has, apart_append}
use Rattle.name_rules.specs.object_file.linking_section.declared.symbol.Symbol.{Symbol}
use Rattle.name_rules.specs.object_file.linking_section.declared.symbol.SymbolKind.{SymbolKind}
use Rattle.name_rules.specs.object_file.linking_section.declared.symbol.SymbolKind.TheVariants.{Function, Datum, GlobalVar, Section, Table}
use Rattle.name_rules.specs.object_file.linking_section.declared.member_kinds.TheConstants as members
use Rattle.name_rules.specs.object_file.linking_section.Flags.{is_weak, is_undefined}
use Rattle.name_rules.specs.object_file.declared.object.Object.{Object}
use Rattle.made_symbols.specs.declared.mode.Mode.TheVariants.{Plain}
use Rattle.made_symbols.specs.Made.{MadeSymbol, made}
use Rattle.name_rules.specs.Entries.{InputSymbol, is_kept, in_kept_part, entry_in, entries_from, symbols_of, made_entry, made_from, is_entry, entries, same_entry}
use Rattle.partial_laws.specs.Inputs.{Run, as_input, alone, Objects, whole_objects, run_objects, AreCut}
use Rattle.partial_laws.specs.Loaded.{Rise}
use Rattle.partial_laws.specs.Standing.{defines_in, alone_symbol}
use Rattle.partial_laws.specs.Joined.{linked_symbols}
use Rattle.partial_laws.proofs.Lists.{none_asked, filter_all}
use Rattle.partial_laws.proofs.Groups.{is_taken_away, run_kept}
use Rattle.partial_laws.proofs.Joins.{all_flat, all_made}
use Rattle.partial_laws.proofs.Instance.{all_from_has}

-- ---- inputs that rise

pub rise_above : (last : ℕ) (os : List Object) → Rise last os → All (λ (o : Object). last < o.input) os
rise_above last [] r = none_asked (λ (o : Object). last < o.input)
rise_above last (o ∷ os) r =
    All-cons (λ (x : Object). last < x.input) o os r.0
    (weaker os (rise_above o.input os r.1))
  where
    weaker : (xs : List Object) → All (λ (x : Object). o.input < x.input) xs → All (λ (x : Object). last < x.input) xs
    weaker [] all = none_asked (λ (x : Object). last < x.input)
    weaker (x ∷ xs) all =
        All-cons (λ (y : Object). last < y.input) x xs (omega (arith, r.0, All-head (λ (y : Object). o.input < y.input) x xs all)) (weaker xs (All-tail (λ (y : Object). o.input < y.input) x xs all))

pub rise_behind : (last : ℕ) (xs ys : List Object) → Rise last (xs ++ ys) → (l : ℕ) × Rise l ys
rise_behind last [] ys r = (last, r)
rise_behind last (x ∷ xs) ys r = rise_behind x.input xs ys r.1

pub rise_front : (last : ℕ) (xs ys : List Object) → Rise last (xs ++ ys) → Rise last xs
rise_front last [] ys r = tt
rise_front last (x ∷ xs) ys r = (r.0, rise_front x.input xs ys r.1)

pub rise_found : (last : ℕ) (os : List Object) → Rise last os → (o : Object) → Has os o → find (λ (x : Object). x.input == o.input) os ≡ Some o
rise_found last [] r o has = absurd has
rise_found last (x ∷ xs) r o (inl it) =
    ap (λ (b : Bool). if b then Some x else find (λ (y : Object). y.input == o.input) xs) (eq-eqb x.input o.input (ap (λ (y : Object). y.input) it)) ∙ ap Some it
rise_found last (x ∷ xs) r o (inr has) =
    let lt : x.input < o.input = all_has (λ (y : Object). x.input < y.input) xs (rise_above x.input xs r.1) o has in
    ap (λ (b : Bool). if b then Some x else find (λ (y : Object). y.input == o.input) xs) (ne_eqb x.input o.input (λ e. omega (arith, lt, e))) ∙ rise_found x.input xs r.1 o has

-- ---- symbols that are told apart

places_from : (objects : List Object) (o : Object) (at : ℕ) (ss : List Symbol) → All (λ (e : InputSymbol). (e.input ≡ o.input) × (at ≤ e.place)) (entries_from objects o at ss)
places_from objects o at [] = none_asked (λ (e : InputSymbol). (e.input ≡ o.input) × (at ≤ e.place))
places_from objects o at (s ∷ ss) =
    All-cons (λ (e : InputSymbol). (e.input ≡ o.input) × (at ≤ e.place)) (entry_in objects o at s) (entries_from objects o (at + 1) ss) (refl, omega arith)
    (lower (entries_from objects o (at + 1) ss) (places_from objects o (at + 1) ss))
  where
    lower : (es : List InputSymbol) → All (λ (e : InputSymbol). (e.input ≡ o.input) × (at + 1 ≤ e.place)) es → All (λ (e : InputSymbol). (e.input ≡ o.input) × (at ≤ e.place)) es
    lower [] all = none_asked (λ (e : InputSymbol). (e.input ≡ o.input) × (at ≤ e.place))
    lower (e ∷ es) all =
        let h = All-head (λ (x : InputSymbol). (x.input ≡ o.input) × (at + 1 ≤ x.place)) e es all in
        All-cons (λ (x : InputSymbol). (x.input ≡ o.input) × (at ≤ x.place)) e es (h.0, omega (arith, h.1)) (lower es (All-tail (λ (x : InputSymbol). (x.input ≡ o.input) × (at + 1 ≤ x.place)) e es all))

same_place : (a b : InputSymbol) → same_entry a b ≡ true → a.place ≡ b.place
same_place a b e = eqb-true a.place b.place (and_parts (a.input == b.input) (a.place == b.place) e).1

same_input : (a b : InputSymbol) → same_entry a b ≡ true → a.input ≡ b.input
same_input a b e = eqb-true a.input b.input (and_parts (a.input == b.input) (a.place == b.place) e).0

apart_from : (objects : List Object) (o : Object) (at : ℕ) (ss : List Symbol) → Apart same_entry (entries_from objects o at ss)
apart_from objects o at [] = tt
apart_from objects o at (s ∷ ss) = (
  (λ y has same.
      let b = all_has (λ (e : InputSymbol). (e.input ≡ o.input) × (at + 1 ≤ e.place)) (entries_from objects o (at + 1) ss) (places_from objects o (at + 1) ss) y has in
      let e : at ≡ y.place = same_place (entry_in objects o at s) y same in
      omega (arith, b.1, e)),
  apart_from objects o (at + 1) ss,
)

apart_made : (at : ℕ) (ms : List MadeSymbol) → Apart same_entry (made_from at ms)
apart_made at [] = tt
apart_made at (m ∷ ms) = (
  (λ y has same.
      let b : at + 1 ≤ y.place = all_has (λ (e : InputSymbol). at + 1 ≤ e.place) (made_from (at + 1) ms) (made_places (at + 1) ms) y has in
      let e : at ≡ y.place = same_place (made_entry at m) y same in
      omega (arith, b, e)),
  apart_made (at + 1) ms,
)
  where
    made_places : (k : ℕ) (xs : List MadeSymbol) → All (λ (e : InputSymbol). k ≤ e.place) (made_from k xs)
    made_places k [] = none_asked (λ (e : InputSymbol). k ≤ e.place)
    made_places k (x ∷ xs) = All-cons (λ (e : InputSymbol). k ≤ e.place) (made_entry k x) (made_from (k + 1) xs) (omega arith) (lower (made_from (k + 1) xs) (made_places (k + 1) xs))
      where
        lower : (es : List InputSymbol) → All (λ (e : InputSymbol). k + 1 ≤ e.place) es → All (λ (e : InputSymbol). k ≤ e.place) es
        lower [] all = none_asked (λ (e : InputSymbol). k ≤ e.place)
        lower (e ∷ es) all = All-cons (λ (y : InputSymbol). k ≤ y.place) e es (omega (arith, All-head (λ (y : InputSymbol). k + 1 ≤ y.place) e es all)) (lower es (All-tail (λ (y : InputSymbol). k + 1 ≤ y.place) e es all))

pub apart_flat : (objects : List Object) (last : ℕ) (os : List Object) → Rise last os → Apart same_entry (flat_map (symbols_of objects) os)
apart_flat objects last [] r = tt
apart_flat objects last (o ∷ os) r =
    subst (Apart same_entry) (sym (flat_map-cons (symbols_of objects) o os))
    (apart_append same_entry (symbols_of objects o) (flat_map (symbols_of objects) os) (apart_from objects o 0 o.symbols) (apart_flat objects o.input os r.1)
    (λ x y hx hy same.
    let i : x.input ≡ o.input = (all_has (λ (e : InputSymbol). (e.input ≡ o.input) × (0 ≤ e.place)) (symbols_of objects o) (places_from objects o 0 o.symbols) x hx).0 in
    let k : o.input < y.input = all_has (λ (e : InputSymbol). o.input < e.input) (flat_map (symbols_of objects) os)
    (all_flat objects (λ (e : InputSymbol). o.input < e.input) (λ (z : Object). o.input < z.input) (λ z lt place s. lt) os (rise_above o.input os r.1)) y hy in
    omega (arith, i, k, same_input x y same)))

pub apart_linked : (objects : List Object) → Rise 0 objects → Apart same_entry (linked_symbols objects)
apart_linked objects r =
    apart_append same_entry (made_from 0 (made Plain)) (flat_map (symbols_of objects) objects) (apart_made 0 (made Plain)) (apart_flat objects 0 objects r)
    (λ x y hx hy same.
    let i : x.input ≡ 0 = all_has (λ (e : InputSymbol). e.input ≡ 0) (made_from 0 (made Plain)) (all_made (λ (e : InputSymbol). e.input ≡ 0) (λ place m. refl) 0 (made Plain)) x hx in
    let k : 0 < y.input = all_has (λ (e : InputSymbol). 0 < e.input) (flat_map (symbols_of objects) objects)
    (all_flat objects (λ (e : InputSymbol). 0 < e.input) (λ (z : Object). 0 < z.input) (λ z lt place s. lt) objects (rise_above 0 objects r)) y hy in
    omega (arith, i, k, same_input x y same))

-- ---- bounds

abbrev pub Low : InputSymbol → Type 0
Low e = (e.class < 3) × (e.input < 2 ^ 20) × (e.place < 2 ^ 32)

low_from : (objects : List Object) (o : Object) (at : ℕ) (ss : List Symbol) → o.input < 2 ^ 20 → at + length ss < 2 ^ 32 → All Low (entries_from objects o at ss)
low_from objects o at [] low few = none_asked Low
low_from objects o at (s ∷ ss) low few =
    let rest : at + 1 + length ss < 2 ^ 32 = omega (arith, few) in
    All-cons Low (entry_in objects o at s) (entries_from objects o (at + 1) ss) (class_low (is_weak s), low, omega (arith, few)) (low_from objects o (at + 1) ss low rest)
  where
    class_low : (b : Bool) → (if b then 1 else 0) < 3
    class_low true = omega arith
    class_low false = omega arith

low_flat : (objects os : List Object) → All (λ (o : Object). (o.input < 2 ^ 20) × (length o.symbols < 2 ^ 32)) os → All Low (flat_map (symbols_of objects) os)
low_flat objects [] all = none_asked Low
low_flat objects (o ∷ os) all =
    let h = All-head (λ (x : Object). (x.input < 2 ^ 20) × (length x.symbols < 2 ^ 32)) o os all in
    subst (All Low) (sym (flat_map-cons (symbols_of objects) o os))
    (All-append Low (symbols_of objects o) (flat_map (symbols_of objects) os) (low_from objects o 0 o.symbols h.0 (omega (arith, h.1))) (low_flat objects os (All-tail (λ (x : Object). (x.input < 2 ^ 20) × (length x.symbols < 2 ^ 32)) o os all)))

pub low_entries : (objects : List Object) → All (λ (o : Object). (o.input < 2 ^ 20) × (length o.symbols < 2 ^ 32)) objects → All Low (entries Plain objects)
unfolding entries
low_entries objects all =
    All-append Low (made_from 0 (made Plain)) (filter is_entry (flat_map (symbols_of objects) objects)) (from_made (made_from 0 (made Plain)) refl)
    (filter_all Low is_entry (flat_map (symbols_of objects) objects) (low_flat objects objects all))
  where
    from_made : (es : List InputSymbol) → list_all (λ (e : InputSymbol). nat_lt e.class 3 && (nat_lt e.input (2 ^ 20) && nat_lt e.place (2 ^ 32))) es ≡ true → All Low es
    from_made [] e = none_asked Low
    from_made (x ∷ xs) e =
        let p = and_parts (nat_lt x.class 3 && (nat_lt x.input (2 ^ 20) && nat_lt x.place (2 ^ 32))) (list_all (λ (y : InputSymbol). nat_lt y.class 3 && (nat_lt y.input (2 ^ 20) && nat_lt y.place (2 ^ 32))) xs) e in
        let q = and_parts (nat_lt x.class 3) (nat_lt x.input (2 ^ 20) && nat_lt x.place (2 ^ 32)) p.0 in
        let r = and_parts (nat_lt x.input (2 ^ 20)) (nat_lt x.place (2 ^ 32)) q.1 in
        All-cons Low x xs (below x.class 3 q.0, below x.input (2 ^ 20) r.0, below x.place (2 ^ 32) r.1) (from_made xs p.1)
      where
        below : (n k : ℕ) → nat_lt n k ≡ true → n < k
        below n k t = grind (arith, nat_tests, t)

-- ---- the run

module _ (run : Run) (os : Objects) (cut : AreCut run os) (rise : Rise 0 (whole_objects os)) where
  middle_rise : (l : ℕ) × Rise l os.middle
  middle_rise =
      let a = rise_behind 0 os.before (os.middle ++ os.behind) rise in
      (a.0, rise_front a.0 os.middle os.behind a.1)

  pub middle_found : All (λ (o : Object). find (λ (x : Object). x.input == o.input) os.middle ≡ Some o) os.middle
  middle_found = all_from_has (λ (o : Object). find (λ (x : Object). x.input == o.input) os.middle ≡ Some o) os.middle (λ o has. rise_found middle_rise.0 os.middle middle_rise.1 o has)

  rebase : (l m : ℕ) (xs : List Object) → Rise l xs → All (λ (o : Object). m < o.input) xs → Rise m xs
  rebase l m [] r all = tt
  rebase l m (x ∷ xs) r all = (All-head (λ (o : Object). m < o.input) x xs all, r.1)

  alone_rise : (last : ℕ) (xs : List Object) → Rise last xs → run.first ≤ last → Rise (last - run.first) (map (λ (o : Object). as_input (alone run o.input) o) xs)
  alone_rise last [] r le = tt
  alone_rise last (x ∷ xs) r le = (omega (arith, r.0, le), alone_rise x.input xs r.1 (omega (arith, r.0, le)))

  pub run_rise : Rise 0 (run_objects run os)
  run_rise =
      let zero_is : run.first - run.first ≡ 0 = omega arith in
      subst (λ n. Rise n (run_objects run os)) zero_is (alone_rise run.first os.middle (rebase middle_rise.0 run.first os.middle middle_rise.1 cut.from) (omega arith))

  -- The symbols of the run alone are told apart.
  pub apart_alone : Apart same_entry (flat_map (symbols_of (run_objects run os)) (run_objects run os))
  apart_alone = apart_flat (run_objects run os) 0 (run_objects run os) run_rise

  -- What defines in the whole link defines in the run alone.
  kept_alone : (o : Object) (s : Symbol) (kind : SymbolKind) → run.first < o.input → o.input ≤ run.first + run.many → in_kept_part (whole_objects os) o s kind ≡ true → in_kept_part (run_objects run os) (as_input (alone run o.input) o) s kind ≡ true
  kept_alone o s Function gt le kept = (and_parts (not (is_taken_away run os cut o members.FUNCTION s.index)) (is_kept (run_objects run os) (as_input (alone run o.input) o) members.FUNCTION s.index) (sym (run_kept run os cut o members.FUNCTION s.index gt le) ∙ kept)).1
  kept_alone o s Datum gt le kept = (and_parts (not (is_taken_away run os cut o members.DATA s.index)) (is_kept (run_objects run os) (as_input (alone run o.input) o) members.DATA s.index) (sym (run_kept run os cut o members.DATA s.index gt le) ∙ kept)).1
  kept_alone o s GlobalVar gt le kept = refl
  kept_alone o s Section gt le kept = refl
  kept_alone o s Table gt le kept = refl

  pub record In (o : Object) : Type 0 where
    pub from : run.first < o.input
    pub to : o.input ≤ run.first + run.many
    pub found : find (λ (x : Object). x.input == o.input) os.middle ≡ Some o

  pub is_in : (o : Object) → Has os.middle o → In o
  is_in o has = record {
    from = all_has (λ (x : Object). run.first < x.input) os.middle cut.from o has;
    to = all_has (λ (x : Object). x.input ≤ run.first + run.many) os.middle cut.to o has;
    found = rise_found middle_rise.0 os.middle middle_rise.1 o has;
  }

  pub alone_defines : All (λ (e : InputSymbol). e.defines ≡ true → (alone_symbol run os e).defines ≡ true) (flat_map (symbols_of (whole_objects os)) os.middle)
  alone_defines =
      all_flat (whole_objects os) (λ (e : InputSymbol). e.defines ≡ true → (alone_symbol run os e).defines ≡ true) In each os.middle
      (all_from_has In os.middle is_in)
    where
      each : (o : Object) → In o → (place : ℕ) (s : Symbol) → (entry_in (whole_objects os) o place s).defines ≡ true → (alone_symbol run os (entry_in (whole_objects os) o place s)).defines ≡ true
      each o i place s d =
          let parts = and_parts (not (is_undefined s)) (in_kept_part (whole_objects os) o s s.kind) d in
          ap (defines_in run os (entry_in (whole_objects os) o place s)) i.found
          ∙ and_from (not (is_undefined s)) (in_kept_part (run_objects run os) (as_input (alone run o.input) o) s s.kind) parts.0 (kept_alone o s s.kind i.from i.to parts.1)
