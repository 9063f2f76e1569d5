-- An init function of the run is called in the later link where it is called in the whole one.
use Rattle.std.proofs.Common.{◌≡◌, ℕ, ◌+◌, ◌<◌, ◌≤◌, ◌==◌, Bool, true, false, not, ◌||◌, ◌&&◌, List, [], ◌++◌, ⊎_elim, refl, sym, ap, ◌∙◌, subst, arith}
use Rattle.std.specs.Prelude.{if◌then◌else◌, Option, Some, None, is_some, unwrap_or, find, slice_get, filter_map, flat_map, bytes_eq}
use Rattle.std.specs.List.{list_any, list_all}
use Rattle.std.proofs.lemmas.Bool.{and_parts, and_from, or_cases, eq-eqb, ne_eqb, eqb-true}
use Rattle.list_places.specs.Has.{Has}
use Rattle.list_places.proofs.Lists.{has_left, has_right, filter_has, has_flat, flat_has, pick_has, map_has, find_has, any_has, has_any, at_has, all_has, some_is}
use Rattle.name_rules.specs.object_file.wl_base.Choice.{has_name}
use Rattle.name_rules.specs.object_file.linking_section.declared.symbol.Symbol.{Symbol}
use Rattle.name_rules.specs.object_file.linking_section.declared.symbol.SymbolKind.{SymbolKind}
use Rattle.name_rules.specs.object_file.linking_section.declared.symbol.SymbolKind.TheVariants.{Function, Datum, GlobalVar, Section, Table}
use Rattle.name_rules.specs.object_file.linking_section.declared.group.Group.{Group}
use Rattle.name_rules.specs.object_file.linking_section.declared.member_kinds.TheConstants as members
use Rattle.name_rules.specs.object_file.linking_section.Flags.{kind_code, is_undefined, is_local, is_definition, is_local_definition, is_weak, is_explicit}
use Rattle.name_rules.specs.object_file.declared.object.Object.{Object}
use Rattle.object_file.specs.Sound.{Sound}
use Rattle.object_rules.specs.Symbols.{is_section, is_seen}
use Rattle.name_rules.specs.Entries.{InputSymbol, name_of, is_kind, is_entry, is_named, same_entry, has_member, has_group, is_kept, in_kept_part, entry_in, symbols_of}
use Rattle.name_rules.specs.Meanings.{winner}
use Rattle.link_rules.specs.Program.{Program, is_that}
use Rattle.link_rules.specs.Marks.{all_symbols}
use Rattle.partial_rules.specs.Partial.{stands, stands_for_name, is_none, is_open, open_symbol, object_winner, name_references, defined_index}
use Rattle.partial_laws.specs.Inputs.{Run, Objects, as_input, alone, whole_objects, run_objects, AreCut}
use Rattle.partial_laws.specs.Kept.{is_taken_away}
use Rattle.partial_laws.specs.Standing.{alone_symbol, joined_symbol, joining, defines_in}
use Rattle.partial_laws.specs.Joining.{Joining}
use Rattle.partial_laws.specs.Joined.{SymbolsStand, NamesStand}
use Rattle.partial_laws.specs.Premises.{members_of, is_member_of, names_in_groups, wins_in}
use Rattle.partial_laws.proofs.Same.{entry_itself, name_itself, name_equal}
use Rattle.partial_laws.proofs.Flags.{open_undefined}
use Rattle.partial_laws.proofs.Loading.{middle_found}
use Rattle.partial_laws.proofs.Joins.{of_run as run_inside}
use Rattle.partial_laws.proofs.Won.{winning}
use Rattle.partial_laws.proofs.Members.{one_input}
use Rattle.partial_laws.proofs.Regions.{of_run, apart_one}
use Rattle.partial_laws.proofs.Stated.{stand, names, parts_are_kept}
use Rattle.partial_parts_laws.specs.Linked.{Links, alone_program}
use Rattle.partial_parts_laws.specs.Moves.{StandsInLinks}
use Rattle.partial_parts_laws.proofs.Parts.{objects_are}
use Rattle.partial_parts_laws.proofs.Symbols.{symbol_of, symbol_at, symbol_input}
use Rattle.partial_parts_laws.proofs.Referred.{StoodBy, not_found, entry_there, alone_there, winner_entry, winner_test, winner_there}

no_true : false ≡ true → ⊥
no_true e = absurd cc

not_true : (b : Bool) → not b ≡ true → b ≡ false
not_true true h = absurd cc
not_true false h = refl

true_by : (b : Bool) → (b ≡ false → ⊥) → b ≡ true
true_by true h = refl
true_by false h = absurd (h refl)

module _ (run : Run) (os : Objects) (ls : Links) (s : StandsInLinks run os ls) where
  abbrev cut : AreCut run os
  cut = s.names.cut

  abbrev p : Program
  p = alone_program run os ls

  abbrev W : List Object
  W = whole_objects os

  abbrev RO : List Object
  RO = run_objects run os

  abbrev M : List InputSymbol
  M = flat_map (symbols_of W) os.middle

  abbrev j : Joining
  j = joining run os p

  abbrev al : InputSymbol → InputSymbol
  al = alone_symbol run os

  abbrev js : InputSymbol → InputSymbol
  js = joined_symbol run os p

  abbrev st : SymbolsStand run os p
  st = stand run os p s.names

  abbrev nm : NamesStand run os p
  nm = names run os p s.names

  -- ---- names of groups

  -- an object of the run, and a symbol of it
  record OfObject (e : InputSymbol) : Type 0 where
    object : Object
    there : Has os.middle object
    place : ℕ
    symbol : Symbol
    has : Has object.symbols symbol
    is : entry_in W object place symbol ≡ e

  of_object : (e : InputSymbol) → Has M e → OfObject e
  of_object e has =
      let f = has_flat (symbols_of W) os.middle e has in
      let sy = symbol_of W f.0 e f.2 in
      record { object = f.0; there = f.1; place = sy.place; symbol = sy.symbol; has = sy.there; is = sy.is }

  -- A definition that is taken away is in a group of the run.
  in_group : (o : Object) → Has os.middle o → (x : Symbol) → Has o.symbols x → is_definition x ≡ true → (name : List ℕ) → x.name ≡ Some name → (k : ℕ) → ((g : Group) → has_member k x.index g ≡ true → is_member_of g x x.kind ≡ true)
      → is_taken_away os o k x.index ≡ true → has_name (names_in_groups p.objects) name ≡ true
  in_group o ho x hx definition name named k member taken =
      let g = has_any (λ h. has_member k x.index h && list_any (has_group h.name) os.before) o.groups taken in
      let m = and_parts (has_member k x.index g.0) (list_any (has_group g.0.name) os.before) g.2 in
      ap (λ (xs : List Object). has_name (names_in_groups xs) name) (objects_are ls.run_alone RO)
      ∙ any_has (bytes_eq name) (names_in_groups RO) name
      (flat_has (λ (y : Object). flat_map (λ h. filter_map (λ z. z.name) (members_of y h)) y.groups) RO (as_input (alone run o.input) o) name
      (map_has (λ (y : Object). as_input (alone run y.input) y) os.middle o ho)
      (flat_has (λ h. filter_map (λ z. z.name) (members_of (as_input (alone run o.input) o) h)) o.groups g.0 name g.1
      (pick_has (λ z. z.name) (members_of (as_input (alone run o.input) o) g.0) x name
      (filter_has (λ z. is_definition z && is_member_of g.0 z z.kind) o.symbols x hx (and_from (is_definition x) (is_member_of g.0 x x.kind) definition (member g.0 m.0))) named)))
      (name_itself name)

  entry_definition : (x : Symbol) (name : List ℕ) → x.name ≡ Some name → (is_some x.name && not (is_local_definition x)) ≡ true → is_undefined x ≡ false → is_definition x ≡ true
  entry_definition x name named entry defined =
      let a = and_parts (is_some x.name) (not (is_local_definition x)) entry in
      by_local (is_local x) (is_undefined x) a.0 defined a.1
    where
      by_local : (l u : Bool) → is_some x.name ≡ true → u ≡ false → not (l && not u) ≡ true → (is_some x.name && not u && not l) ≡ true
      by_local true true h e n = absurd cc
      by_local true false h e n = absurd cc
      by_local false true h e n = absurd cc
      by_local false false h e n = ap (λ (b : Bool). b && not false && not false) h

  taken_named : (e : InputSymbol) → Has M e → is_entry e ≡ true → (al e).defines ≡ true → e.defines ≡ false → has_name (names_in_groups p.objects) (name_of e) ≡ true
  taken_named e has entry alone_defines lost =
      let o = of_object e has in
      let found = all_has (λ (y : Object). find (λ (z : Object). z.input == y.input) os.middle ≡ Some y) os.middle (middle_found run os cut s.names.loaded.rise) o.object o.there in
      let d : (not (is_undefined o.symbol) && in_kept_part RO (as_input (alone run o.object.input) o.object) o.symbol o.symbol.kind) ≡ true =
      sym (ap (defines_in run os (entry_in W o.object o.place o.symbol)) found) ∙ (ap (λ (x : InputSymbol). (al x).defines) o.is ∙ alone_defines) in
      let dp = and_parts (not (is_undefined o.symbol)) (in_kept_part RO (as_input (alone run o.object.input) o.object) o.symbol o.symbol.kind) d in
      let gone : in_kept_part W o.object o.symbol o.symbol.kind ≡ false =
      sym (ap (λ (b : Bool). b && in_kept_part W o.object o.symbol o.symbol.kind) dp.0) ∙ (ap (λ (x : InputSymbol). x.defines) o.is ∙ lost) in
      subst (λ (x : InputSymbol). is_entry x ≡ true → has_name (names_in_groups p.objects) (name_of x) ≡ true) o.is
      (λ en. by_name o.object o.there o.symbol o.has o.symbol.name refl en (not_true (is_undefined o.symbol) dp.0) dp.1 gone) entry
    where
      from_run : (o : Object) → Has os.middle o → (k index : ℕ) → is_kept RO (as_input (alone run o.input) o) k index ≡ true → is_kept W o k index ≡ false → is_taken_away os o k index ≡ true
      from_run o ho k index keeps gone = by_taken (is_taken_away os o k index) (sym ((parts_are_kept run os cut).of_run o k index (all_has (λ (y : Object). run.first < y.input) os.middle cut.from o ho) (all_has (λ (y : Object). y.input ≤ run.first + run.many) os.middle cut.to o ho)) ∙ gone)
        where
          by_taken : (t : Bool) → (not t && is_kept RO (as_input (alone run o.input) o) k index) ≡ false → t ≡ true
          by_taken true h = refl
          by_taken false h = absurd (no_true (sym h ∙ keeps))

      by_kind : (o : Object) → Has os.middle o → (x : Symbol) → Has o.symbols x → is_definition x ≡ true → (name : List ℕ) → x.name ≡ Some name → (k : SymbolKind) → x.kind ≡ k
          → in_kept_part RO (as_input (alone run o.input) o) x k ≡ true → in_kept_part W o x k ≡ false → has_name (names_in_groups p.objects) name ≡ true
      by_kind o ho x hx definition name named Function kind keeps gone =
          in_group o ho x hx definition name named members.FUNCTION (λ g m. ap (is_member_of g x) kind ∙ m) (from_run o ho members.FUNCTION x.index keeps gone)
      by_kind o ho x hx definition name named Datum kind keeps gone =
          in_group o ho x hx definition name named members.DATA (λ g m. ap (is_member_of g x) kind ∙ m) (from_run o ho members.DATA x.index keeps gone)
      by_kind o ho x hx definition name named GlobalVar kind keeps gone = absurd cc
      by_kind o ho x hx definition name named Section kind keeps gone = absurd cc
      by_kind o ho x hx definition name named Table kind keeps gone = absurd cc

      by_name : (o : Object) → Has os.middle o → (x : Symbol) → Has o.symbols x → (n : Option (List ℕ)) → x.name ≡ n → (is_some x.name && not (is_local_definition x)) ≡ true → is_undefined x ≡ false
          → in_kept_part RO (as_input (alone run o.input) o) x x.kind ≡ true → in_kept_part W o x x.kind ≡ false → has_name (names_in_groups p.objects) (unwrap_or x.name []) ≡ true
      by_name o ho x hx None named entry defined keeps gone = absurd (no_true (sym (ap (λ (m : Option (List ℕ)). is_some m && not (is_local_definition x)) named) ∙ entry))
      by_name o ho x hx (Some name) named entry defined keeps gone =
          ap (λ (m : Option (List ℕ)). has_name (names_in_groups p.objects) (unwrap_or m [])) named ∙ by_kind o ho x hx (entry_definition x name named entry defined) name named x.kind refl keeps gone

  -- ---- what is called

  abbrev pub active : InputSymbol → Bool
  active e = not (not (is_undefined e.symbol) && not e.defines)

  active_is : (u d : Bool) → not (not u && not d) ≡ (u || d)
  active_is true d = refl
  active_is false true = refl
  active_is false false = refl

  module _ (e : InputSymbol) (has : Has M e) (section : is_kind Section e ≡ false) (n : ℕ) (stood : StoodBy run os ls s e n) (alone_active : active (al e) ≡ true)
      (stands_so : (not (is_entry (al e)) || not (has_name (names_in_groups p.objects) (name_of (al e))) || wins_in (al e).input (winner p.entries (name_of (al e)))) ≡ true) where
    abbrev y : InputSymbol
    y = stood.by

    inside : (j.keep y ≡ stands p (al y)) × (j.move y ≡ js (al y))
    inside = run_inside run os p cut st y (of_run run os cut y stood.there).from (of_run run os cut y stood.there).to

    same_active : (a b : InputSymbol) → is_undefined a.symbol ≡ is_undefined b.symbol → a.defines ≡ b.defines → active a ≡ active b
    same_active a b u d = ap (λ (t : Bool). not (not t && not a.defines)) u ∙ ap (λ (t : Bool). not (not (is_undefined b.symbol) && not t)) d

    closed_defines : is_open p (al y) ≡ false → (j.move y).defines ≡ y.defines
    closed_defines closed =
        ap (λ (x : InputSymbol). x.defines) inside.1
        ∙ all_has (λ (x : InputSymbol). stands p (al x) ≡ true → is_open p (al x) ≡ false → (js (al x)).defines ≡ x.defines) M s.names.read.closed y stood.there (sym inside.0 ∙ stood.kept) closed

    closed_alike : is_open p (al y) ≡ false → active (j.move y) ≡ active y
    closed_alike closed =
        same_active (j.move y) y
        (ap (λ (x : InputSymbol). is_undefined x.symbol) inside.1 ∙ ap (λ (b : Bool). is_undefined (if b then open_symbol p (al y) else record y.symbol { index = defined_index p (al y) y.symbol.kind })) closed)
        (closed_defines closed)

    open_active : is_open p (al y) ≡ true → active (j.move y) ≡ true
    open_active opened =
        ap (λ (t : Bool). not (not t && not (j.move y).defines))
        (ap (λ (x : InputSymbol). is_undefined x.symbol) inside.1
        ∙ (ap (λ (b : Bool). is_undefined (if b then open_symbol p (al y) else record y.symbol { index = defined_index p (al y) y.symbol.kind })) opened
        ∙ open_undefined y.symbol.flags (list_all (λ r. is_weak r.symbol) (name_references p (name_of y))) (list_any (λ r. is_explicit r.symbol) (name_references p (name_of y)))))

    defines_active : (a : InputSymbol) → a.defines ≡ true → active a ≡ true
    defines_active a d = ap (λ (t : Bool). not (not (is_undefined a.symbol) && not t)) d ∙ none (is_undefined a.symbol)
      where
        none : (u : Bool) → not (not u && false) ≡ true
        none true = refl
        none false = refl

    -- a local symbol stands for itself
    local_active : is_entry e ≡ false → active (j.move y) ≡ active e
    local_active entry = closed_alike (ap (λ (b : Bool). b && is_none (object_winner p (name_of y))) (stood.entry ∙ entry)) ∙ ap active (stood.own entry)

    -- where no group defines the name, nothing of it is taken away
    not_taken : (x : InputSymbol) → Has M x → is_entry x ≡ true → name_of x ≡ name_of e → has_name (names_in_groups p.objects) (name_of e) ≡ false → (al x).defines ≡ true → x.defines ≡ true
    not_taken x hx entry same none d = true_by x.defines (λ lost. no_true (sym none ∙ (ap (has_name (names_in_groups p.objects)) (sym same) ∙ taken_named x hx entry d lost)))

    own_active : is_entry e ≡ true → has_name (names_in_groups p.objects) (name_of e) ≡ false → active e ≡ true
    own_active entry none =
        ⊎_elim (λ u. ap (λ (t : Bool). not (not t && not e.defines)) u) (λ d. defines_active e (not_taken e has entry refl none d))
        (or_cases (is_undefined e.symbol) (al e).defines (sym (active_is (is_undefined e.symbol) (al e).defines) ∙ alone_active))

    record Wins (w : InputSymbol) : Type 0 where
      won : winner p.entries (name_of e) ≡ Some w
      symbol : Has (all_symbols p) w
      defines : w.defines ≡ true

    -- the winner in an object is the winner
    wins : (w : InputSymbol) → object_winner p (name_of e) ≡ Some w → Wins w
    wins w found =
        let f = find_has (λ x. not (x.input == 0) && is_named (name_of e) x) p.winners w found in
        let t = and_parts (not (w.input == 0)) (is_named (name_of e) w) f.1 in
        let g = winner_test run os ls s w f.0 in
        by_winner (winner p.entries (name_of e)) refl t.0 (winner_entry run os ls s w f.0) (ap (λ nn. is_that w (winner p.entries nn)) (sym (name_equal (name_of w) (name_of e) t.1)) ∙ g)
      where
        by_winner : (o : Option InputSymbol) → winner p.entries (name_of e) ≡ o → not (w.input == 0) ≡ true → Has p.entries w → is_that w o ≡ true → Wins w
        by_winner None is above there that = absurd (no_true that)
        by_winner (Some v) is above there that =
            let win = winning p.entries (name_of e) v is in
            let inputs : w.input ≡ v.input = eqb-true w.input v.input (and_parts (w.input == v.input) (w.place == v.place) that).0 in
            let hw = entry_there run os ls s w there above in
            let hv = entry_there run os ls s v win.entry (ap (λ k. not (k == 0)) (sym inputs) ∙ above) in
            let it : w ≡ v = apart_one (all_symbols p) st.apart w v hw.0 hv.0 that in
            record { won = is ∙ ap Some (sym it); symbol = hw.0; defines = ap (λ (x : InputSymbol). x.defines) it ∙ win.defines }

    -- and where an object's definition wins, it is the winner in an object
    none_wins : object_winner p (name_of e) ≡ None → (v : InputSymbol) → winner p.entries (name_of e) ≡ Some v → not (v.input == 0) ≡ true → ⊥
    none_wins none v is above =
        let win = winning p.entries (name_of e) v is in
        not_found (λ x. not (x.input == 0) && is_named (name_of e) x) p.winners none v (winner_there run os ls s v win.entry (ap (λ nn. is_that v (winner p.entries nn)) win.named_so ∙ (ap (is_that v) is ∙ entry_itself v)))
        (and_from (not (v.input == 0)) (is_named (name_of e) v) above (ap (λ nn. bytes_eq nn (name_of e)) win.named_so ∙ name_itself (name_of e)))

    stands_as : is_entry e ≡ true → stands_for_name p (al y) (object_winner p (name_of e)) ≡ true
    stands_as entry =
        sym (ap (λ nn. stands_for_name p (al y) (object_winner p nn)) stood.name)
        ∙ (sym (ap (λ (b : Bool). if b then stands_for_name p (al y) (object_winner p (name_of y)) else ((al y).defines && not (is_kind Section y))) (stood.entry ∙ entry)) ∙ (sym inside.0 ∙ stood.kept))

    open_is : is_entry e ≡ true → (o : Option InputSymbol) → object_winner p (name_of e) ≡ o → is_open p (al y) ≡ is_none o
    open_is entry o is = ap (λ (b : Bool). b && is_none (object_winner p (name_of y))) (stood.entry ∙ entry) ∙ (ap (λ nn. is_none (object_winner p nn)) stood.name ∙ ap is_none is)

    -- Two entries of one object and name are one.
    same_object : is_entry e ≡ true → y.input ≡ e.input → y ≡ e
    same_object entry inputs =
        let o = of_object e has in
        let f = has_flat (symbols_of W) os.middle y stood.there in
        let oy : f.0 ≡ o.object = one_object f.0 o.object f.1 o.there (sym (symbol_input W f.0 y f.2) ∙ (inputs ∙ ap (λ (x : InputSymbol). x.input) (sym o.is))) in
        let hy : Has (symbols_of W o.object) y = subst (λ (x : Object). Has (symbols_of W x) y) oy f.2 in
        let g = has_flat (symbols_of W) os.middle e has in
        let oe : g.0 ≡ o.object = one_object g.0 o.object g.1 o.there (sym (symbol_input W g.0 e g.2) ∙ ap (λ (x : InputSymbol). x.input) (sym o.is)) in
        let he : Has (symbols_of W o.object) e = subst (λ (x : Object). Has (symbols_of W x) e) oe g.2 in
        let ky = at_has (symbols_of W o.object) y hy in
        let ke = at_has (symbols_of W o.object) e he in
        let so = all_has (λ (x : Object). (size : ℕ) × Sound size x) W s.sound o.object (has_right os.before (os.middle ++ os.behind) o.object (has_left os.middle os.behind o.object o.there)) in
        let sound : Sound so.0 o.object = so.1 in
        let ns = some_name e.symbol.name refl (and_parts (is_some e.symbol.name) (not (is_local_definition e.symbol)) entry).0 in
        let ny = some_name y.symbol.name refl (and_parts (is_some y.symbol.name) (not (is_local_definition y.symbol)) (stood.entry ∙ entry)).0 in
        let same : ny.0 ≡ ns.0 = sym (ap (λ (nn : Option (List ℕ)). unwrap_or nn []) ny.1) ∙ (stood.name ∙ ap (λ (nn : Option (List ℕ)). unwrap_or nn []) ns.1) in
        let places : ky.0 ≡ ke.0 = sound.names_differ ky.0 ke.0 y.symbol e.symbol ns.0 (symbol_at W o.object 0 o.object.symbols ky.0 y ky.1) (symbol_at W o.object 0 o.object.symbols ke.0 e ke.1)
        (seen y.symbol (ap (λ k. kind_code k == kind_code Section) stood.kind ∙ section) (stood.entry ∙ entry)) (seen e.symbol section entry) (ny.1 ∙ ap Some same) ns.1 in
        some_is y e (sym ky.1 ∙ (ap (slice_get (symbols_of W o.object)) places ∙ ke.1))
      where
        one_object : (a b : Object) → Has os.middle a → Has os.middle b → a.input ≡ b.input → a ≡ b
        one_object a b ha hb same = one_input run os p cut s.names.loaded b a hb ha (eq-eqb a.input b.input same)

        some_name : (nn : Option (List ℕ)) {m : Option (List ℕ)} → m ≡ nn → is_some m ≡ true → (name : List ℕ) × (m ≡ Some name)
        some_name None is h = absurd (no_true (sym (ap is_some is) ∙ h))
        some_name (Some name) is h = (name, is)

        seen : (x : Symbol) → (kind_code x.kind == kind_code Section) ≡ false → (is_some x.name && not (is_local_definition x)) ≡ true → is_seen x ≡ true
        seen x other entry' = by_parts (is_section x.kind) (is_undefined x) (is_local x) (no_section x.kind other) (and_parts (is_some x.name) (not (is_local_definition x)) entry').1
          where
            no_section : (k : SymbolKind) → (kind_code k == kind_code Section) ≡ false → is_section k ≡ false
            no_section Function h = refl
            no_section Datum h = refl
            no_section GlobalVar h = refl
            no_section Section h = absurd cc
            no_section Table h = refl

            by_parts : (c u l : Bool) → c ≡ false → not (l && not u) ≡ true → (not c && (u || not l)) ≡ true
            by_parts true u l h n = absurd cc
            by_parts false true l h n = refl
            by_parts false false true h n = absurd cc
            by_parts false false false h n = refl

    entry_active : is_entry e ≡ true → active (j.move y) ≡ active e
    entry_active entry = by_group (has_name (names_in_groups p.objects) (name_of e)) refl
      where
        by_winner : (o : Option InputSymbol) → winner p.entries (name_of e) ≡ o → wins_in (al e).input o ≡ true → (w : Option InputSymbol) → object_winner p (name_of e) ≡ w → active (j.move y) ≡ active e
        by_winner None is told w found = absurd (no_true told)
        by_winner (Some v) is told None found =
            let i = of_run run os cut e has in
            absurd (none_wins found v is (ap not (ne_eqb v.input 0 (λ z. omega (arith, z, i.from, eqb-true v.input (al e).input told)))))
        by_winner (Some v) is told (Some w) found =
            let win = wins w found in
            let it : w ≡ v = some_is w v (sym win.won ∙ is) in
            let same : same_entry (al y) w ≡ true = sym (ap (stands_for_name p (al y)) found) ∙ stands_as entry in
            let inputs : (al y).input ≡ (al e).input = eqb-true (al y).input w.input (and_parts ((al y).input == w.input) ((al y).place == w.place) same).0 ∙ (ap (λ (x : InputSymbol). x.input) it ∙ eqb-true v.input (al e).input told) in
            let i = of_run run os cut e has in
            let k = of_run run os cut y stood.there in
            closed_alike (open_is entry (Some w) found) ∙ ap active (same_object entry (omega (arith, inputs, i.from, k.from)))

        by_open : has_name (names_in_groups p.objects) (name_of e) ≡ false → (w : Option InputSymbol) → object_winner p (name_of e) ≡ w → active (j.move y) ≡ active e
        by_open none None found = open_active (open_is entry None found) ∙ sym (own_active entry none)
        by_open none (Some w) found =
            let win = wins w found in
            let same : same_entry (al y) w ≡ true = sym (ap (stands_for_name p (al y)) found) ∙ stands_as entry in
            let it : al y ≡ w = apart_one (all_symbols p) st.apart (al y) w (alone_there run os ls s y stood.there) win.symbol same in
            let d : y.defines ≡ true = not_taken y stood.there (stood.entry ∙ entry) stood.name none (ap (λ (x : InputSymbol). x.defines) it ∙ win.defines) in
            defines_active (j.move y) (closed_defines (open_is entry (Some w) found) ∙ d) ∙ sym (own_active entry none)

        by_group : (b : Bool) → has_name (names_in_groups p.objects) (name_of e) ≡ b → active (j.move y) ≡ active e
        by_group true grouped =
            by_winner (winner p.entries (name_of e)) refl
            (sym (ap (λ (b : Bool). not b || not (has_name (names_in_groups p.objects) (name_of e)) || wins_in (al e).input (winner p.entries (name_of e))) entry
            ∙ ap (λ (b : Bool). false || not b || wins_in (al e).input (winner p.entries (name_of e))) grouped) ∙ stands_so)
            (object_winner p (name_of e)) refl
        by_group false none = by_open none (object_winner p (name_of e)) refl

    -- It is called in the one where it is called in the other.
    pub active_alike : active (j.move y) ≡ active e
    active_alike = by_entry (is_entry e) refl
      where
        by_entry : (b : Bool) → is_entry e ≡ b → active (j.move y) ≡ active e
        by_entry true entry = entry_active entry
        by_entry false entry = local_active entry
