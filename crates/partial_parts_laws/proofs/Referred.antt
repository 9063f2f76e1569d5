-- What references of parts lead to: what is meant is held, and a symbol that stands for another in the one object means the same.
use Rattle.std.proofs.Common.{◌≡◌, ℕ, ◌+◌, ◌<◌, ◌≤◌, ◌==◌, Bool, true, false, not, ◌||◌, ◌&&◌, List, [], ◌∷◌, ◌++◌, map, filter, length, inl, inr, ⊎_elim, refl, sym, ap, ◌∙◌, subst, arith}
use Rattle.std.specs.Prelude.{if◌then◌else◌, nat_lt, nat_le, Option, Some, None, is_some, option_map, unwrap_or, slice_get, find, flat_map, bytes_eq, IsTrue}
use Rattle.std.specs.List.{list_any, list_all}
use Rattle.std.proofs.lemmas.Bool.{and_parts, and_from, or_right, eq-eqb, ne_eqb, eqb-true}
use Rattle.std.proofs.lemmas.Bool.Decides.{nat_tests}
use Rattle.std.proofs.lemmas.Option.{slice_get-map}
use Rattle.list_places.specs.Has.{Has}
use Rattle.list_places.proofs.Lists.{has_either, has_left, has_right, has_flat, has_filter, filter_has, find_has, any_has, has_at, map_has, all_has, some_is, placed, stands as stands_at}
use Rattle.name_rules.specs.object_file.wl_base.Choice.{first_some, given}
use Rattle.name_rules.specs.object_file.linking_section.declared.symbol.SymbolKind.{SymbolKind}
use Rattle.name_rules.specs.object_file.linking_section.declared.symbol.SymbolKind.TheVariants.{Function, Datum, GlobalVar, Section, Table}
use Rattle.name_rules.specs.object_file.linking_section.Flags.{kind_code, is_weak, is_explicit, is_undefined, is_local_definition}
use Rattle.name_rules.specs.object_file.declared.object.Object.{Object}
use Rattle.object_file.specs.Sound.{Sound}
use Rattle.object_rules.specs.Symbols.{is_section}
use Rattle.name_rules.specs.object_file.wl_base.declared.fault.Fault.TheVariants.{Unresolved}
use Rattle.made_symbols.specs.declared.mode.Mode.TheVariants.{Plain}
use Rattle.made_symbols.specs.Made.{made}
use Rattle.name_rules.specs.Entries.{InputSymbol, ImportKey, name_of, named, is_kind, is_entry, is_named, same_entry, entries, in_kept_part, entry_in, symbols_of, made_from}
use Rattle.name_rules.specs.Meanings.{Meaning, here, imported, null, nothing, no_uses, meaning, own_meaning, by_rules, winner, references, least_import, where_given, may_import, may_be_null}
use Rattle.index_layout.specs.Numbers.{number_by}
use Rattle.link_rules.specs.Program.{Program, Ref, is_that, is_winner, winners_of, chunk_of}
use Rattle.link_rules.specs.Marks.{all_symbols, refs_of}
use Rattle.partial_rules.specs.Partial.{standing, stands, stands_for_name, is_open, open_symbol, object_winner, least_in_object, is_referenced, name_references, names_it, is_for, symbol_number, is_lost, is_lost_there, open_local, defined_index}
use Rattle.partial_rules.specs.Moving.{MeansHeld}
use Rattle.partial_laws.specs.Inputs.{Run, Objects, whole_objects, run_objects, later_objects, AreCut}
use Rattle.partial_laws.specs.Standing.{is_of_run, alone_symbol, joining}
use Rattle.partial_laws.specs.Joining.{Joining, IsJoining}
use Rattle.partial_laws.specs.Joined.{linked_symbols, SymbolsStand, NamesStand, OpensStand}
use Rattle.partial_laws.proofs.Same.{entry_itself, name_itself, name_equal}
use Rattle.partial_laws.proofs.Flags.{open_undefined}
use Rattle.partial_laws.proofs.Cases.{one_type}
use Rattle.partial_laws.proofs.Won.{winning}
use Rattle.partial_laws.proofs.Loading.{rise_above}
use Rattle.partial_laws.proofs.Symbols.{all_alone}
use Rattle.partial_laws.proofs.Joins.{all_made, not_after, not_before, of_run as run_inside, standing_is, joined_middle}
use Rattle.partial_laws.proofs.Regions.{OfRun, region, of_run, run_linked, entry_linked, linked_entry, made_linked, entry_from}
use Rattle.partial_laws.proofs.Opened.{weak_all}
use Rattle.partial_laws.proofs.Stated.{stand, names, opens, is as is_joining}
use Rattle.partial_parts_laws.specs.Linked.{Links, alone_program, whole_program}
use Rattle.partial_parts_laws.specs.Moves.{moving, StandsInLinks}
use Rattle.partial_parts_laws.specs.Alike.{is_placed, HeldChunk, HeldSymbol}
use Rattle.partial_parts_laws.proofs.Symbols.{symbol_of, defined_placed}

no_true : false ≡ true → ⊥
no_true e = absurd cc

not_true : (b : Bool) → not b ≡ true → b ≡ false
not_true true h = absurd cc
not_true false h = refl

-- what isn't found isn't there
pub not_found : {A : Type 0} (t : A → Bool) (xs : List A) → find t xs ≡ None → (x : A) → Has xs x → t x ≡ true → ⊥
not_found t [] none x h ok = h
not_found {A} t (y ∷ ys) none x h ok = by_test (t y) refl none h (λ rest below. not_found t ys rest x below ok)
  where
    by_test : (b : Bool) → t y ≡ b → (if b then Some y else find t ys) ≡ None → Has (y ∷ ys) x → (find t ys ≡ None → Has ys x → ⊥) → ⊥
    by_test true is found_it there rest = absurd cc
    by_test false is none_left (inl it) rest = no_true (sym is ∙ (ap t it ∙ ok))
    by_test false is none_left (inr below) rest = rest none_left below

-- ---- kinds by their codes

kind_at : ℕ → SymbolKind
kind_at n = if n == 0 then Function else (if n == 1 then Datum else (if n == 2 then GlobalVar else (if n == 3 then Section else Table)))

kind_back : (k : SymbolKind) → kind_at (kind_code k) ≡ k
unfolding kind_at
kind_back Function = refl
kind_back Datum = refl
kind_back GlobalVar = refl
kind_back Section = refl
kind_back Table = refl

pub kinds_equal : (a b : SymbolKind) → kind_code a ≡ kind_code b → a ≡ b
kinds_equal a b e = sym (kind_back a) ∙ (ap kind_at e ∙ kind_back b)

module _ (run : Run) (os : Objects) (ls : Links) (s : StandsInLinks run os ls) where
  abbrev cut : AreCut run os
  cut = s.names.cut

  abbrev p : Program
  p = alone_program run os ls

  abbrev W : List Object
  W = whole_objects os

  abbrev L : List Object
  L = later_objects run os

  abbrev RO : List Object
  RO = run_objects run os

  abbrev j : Joining
  j = joining run os p

  abbrev al : InputSymbol → InputSymbol
  al = alone_symbol run os

  abbrev es : List InputSymbol
  es = entries Plain W

  abbrev M : List InputSymbol
  M = flat_map (symbols_of W) os.middle

  abbrev allow : Bool
  allow = ls.whole.plan.allow_undefined

  -- what a symbol means in the whole link
  abbrev pub whole_meaning : InputSymbol → Meaning
  whole_meaning e = meaning Plain no_uses allow es e

  abbrev st : SymbolsStand run os p
  st = stand run os p s.names

  abbrev nm : NamesStand run os p
  nm = names run os p s.names

  abbrev op : OpensStand run os p
  op = opens run os p s.names

  abbrev Known : InputSymbol → Type 0
  Known e = Has (linked_symbols W) e

  abbrev J : IsJoining j Known es
  J = is_joining run os p s.names

  -- ---- the run's symbols

  alone_are : all_symbols p ≡ map al M
  alone_are = st.program ∙ all_alone run os cut st.found

  pub alone_there : (e : InputSymbol) → Has M e → Has (all_symbols p) (al e)
  alone_there e has = subst (λ xs. Has xs (al e)) (sym alone_are) (map_has al M e has)

  pub run_known : (e : InputSymbol) → Has M e → Known e
  run_known e has = has_right (made_from 0 (made Plain)) (flat_map (symbols_of W) W) e (run_linked run os cut e has)

  -- ---- what is held

  pub held_symbol : (d : InputSymbol) → Known d → j.keep d ≡ true → (j.move d).defines ≡ true → d.defines ≡ true → HeldSymbol run os ls d
  held_symbol d known kept moved defines =
      and_from (is_placed (whole_program run os ls) (chunk_of d)) (if is_of_run run os d then list_any (same_entry (al d)) (standing p) && not (is_open p (al d)) else true)
      (defined_placed ls.whole W s.strict (rise_above 0 W s.names.loaded.rise) s.sound d known defines)
      (by_run (is_of_run run os d) refl)
    where
      inside : is_of_run run os d ≡ true → OfRun run os cut d
      inside e =
          let a = and_parts (nat_lt run.first d.input) (nat_le d.input (run.first + run.many)) e in
          let gt : run.first < d.input = grind (arith, nat_tests, a.0) in
          let le : d.input ≤ run.first + run.many = grind (arith, nat_tests, a.1) in
          ⊎_elim (λ low. absurd (omega (arith, low, gt))) (λ rest. ⊎_elim (λ (i : OfRun run os cut d). i) (λ high. absurd (omega (arith, high, le))) rest) (region run os cut d known)

      closed : OfRun run os cut d → (b : Bool) → is_open p (al d) ≡ b → not b ≡ true
      closed i false e = refl
      closed i true e =
          absurd (no_true (sym (ap (λ (x : InputSymbol). x.defines) (run_inside run os p cut st d i.from i.to).1
          ∙ (ap (λ (b : Bool). (entry_in L os.joined (number_by same_entry (standing p) (al d)) (if b then open_symbol p (al d) else record d.symbol { index = defined_index p (al d) d.symbol.kind })).defines) e
          ∙ undefined_not (is_undefined (open_symbol p (al d))) (in_kept_part L os.joined (open_symbol p (al d)) d.symbol.kind)
          (open_undefined d.symbol.flags (list_all (λ r. is_weak r.symbol) (name_references p (name_of d))) (list_any (λ r. is_explicit r.symbol) (name_references p (name_of d)))))) ∙ moved))
        where
          undefined_not : (a b : Bool) → a ≡ true → (not a && b) ≡ false
          undefined_not true b e' = refl
          undefined_not false b e' = absurd (no_true e')

      by_run : (t : Bool) → is_of_run run os d ≡ t → (if t then list_any (same_entry (al d)) (standing p) && not (is_open p (al d)) else true) ≡ true
      by_run false e = refl
      by_run true e =
          let i = inside e in
          and_from (list_any (same_entry (al d)) (standing p)) (not (is_open p (al d)))
          (any_has (same_entry (al d)) (standing p) (al d) (filter_has (stands p) (all_symbols p) (al d) (alone_there d i.there) (sym (run_inside run os p cut st d i.from i.to).0 ∙ kept)) (entry_itself (al d)))
          (closed i (is_open p (al d)) refl)

  -- an entry among the symbols of the link
  entry_known : (e : InputSymbol) → Known e → is_entry e ≡ true → Has es e
  entry_known e known entry = ⊎_elim (λ own. made_linked W e own) (λ rest. linked_entry W e rest entry) (has_either (made_from 0 (made Plain)) (flat_map (symbols_of W) W) e known)

  abbrev Means : SymbolKind → Meaning → Type 0
  Means kind x = MeansHeld (moving run os p) (HeldChunk run os ls) (HeldSymbol run os ls) kind x

  rule_held : (kind : SymbolKind) (o : Option InputSymbol) (x y : Option ImportKey) (w : Bool) → ((d : InputSymbol) → o ≡ Some d → HeldSymbol run os ls d × (d.symbol.kind ≡ kind))
      → Means kind (unwrap_or (first_some (option_map here o ∷ option_map imported x ∷ option_map imported y ∷ given w null ∷ [])) nothing)
  rule_held kind (Some d) x y w held = held d refl
  rule_held kind None (Some k) y w held = tt
  rule_held kind None None (Some k) w held = tt
  rule_held kind None None None true held = tt
  rule_held kind None None None false held = tt

  -- a local symbol of a kept part, or one of the linker, is kept
  own_kept : (e : InputSymbol) → Known e → is_entry e ≡ false → is_kind Section e ≡ false → e.defines ≡ true → j.keep e ≡ true
  own_kept e known entry section defines =
      ⊎_elim (λ le. (not_after run os p cut st e le).0)
      (λ rest. ⊎_elim (λ (i : OfRun run os cut e).
      (run_inside run os p cut st e i.from i.to).0
      ∙ (ap (λ (b : Bool). if b then stands_for_name p (al e) (object_winner p (name_of e)) else ((al e).defines && not (is_kind Section e))) entry
      ∙ and_from (al e).defines (not (is_kind Section e)) (all_has (λ (x : InputSymbol). x.defines ≡ true → (al x).defines ≡ true) M nm.alone_defines e i.there defines) (ap not section)))
      (λ lt. (not_before run os p cut st e lt).0) rest)
      (region run os cut e known)

  pub means_held : (e : InputSymbol) → Known e → is_kind Section e ≡ false → Means e.symbol.kind (whole_meaning e)
  means_held e known section = by_entry (is_entry e) refl
    where
      of_winner : is_entry e ≡ true → (d : InputSymbol) → winner es (name_of e) ≡ Some d → HeldSymbol run os ls d × (d.symbol.kind ≡ e.symbol.kind)
      of_winner entry d won =
          let w = winning es (name_of e) d won in
          let same = one_type es s.names.no_clash d e w.entry (entry_known e known entry) w.named_so in
          (held_symbol d (entry_linked W d w.entry) (J.winner_kept (name_of e) d won) (J.winner_defines (name_of e) d won) w.defines, kinds_equal d.symbol.kind e.symbol.kind same.0)

      by_defines : is_entry e ≡ false → (b : Bool) → e.defines ≡ b → Means e.symbol.kind (if b then here e else nothing)
      by_defines entry false d = tt
      by_defines entry true d =
          let kept = own_kept e known entry section d in
          (held_symbol e known kept (J.own e (record { symbol = known; kept = kept }) entry ∙ d) d, refl)

      by_entry : (b : Bool) → is_entry e ≡ b → Means e.symbol.kind (if b then by_rules Plain no_uses allow (named es (name_of e)) e else own_meaning e)
      by_entry true entry =
          rule_held e.symbol.kind (winner es (name_of e)) (least_import (filter (λ r. is_explicit r.symbol) (references (named es (name_of e)))))
          (where_given (allow && may_import (named es (name_of e)) e) (least_import (references (named es (name_of e))))) (may_be_null e) (of_winner entry)
      by_entry false entry = by_defines entry e.defines refl

  -- ---- what stands for a symbol of the run

  -- the symbol at this number in the one object
  pub record StoodBy (e : InputSymbol) (n : ℕ) : Type 0 where
    pub by : InputSymbol
    pub there : Has M by
    pub kept : j.keep by ≡ true
    pub at : slice_get (symbols_of L os.joined) n ≡ Some (j.move by)
    pub kind : by.symbol.kind ≡ e.symbol.kind
    pub name : name_of by ≡ name_of e
    pub entry : is_entry by ≡ is_entry e
    pub own : is_entry e ≡ false → by ≡ e
    pub meaning : whole_meaning by ≡ whole_meaning e

  record Found (e : InputSymbol) (n : ℕ) : Type 0 where
    by : InputSymbol
    there : Has M by
    kept : j.keep by ≡ true
    at : slice_get (symbols_of L os.joined) n ≡ Some (j.move by)
    passes : is_for p (al e) (al by) ≡ true

  found : (e x : InputSymbol) → Has (standing p) x → is_for p (al e) x ≡ true → Found e (symbol_number p (al e))
  found e x has ok =
      let r = placed (is_for p (al e)) (standing p) x has ok in
      let at = stands_at (is_for p (al e)) (standing p) r.0 r.1 in
      subst (Found e) (sym (ap (λ o. unwrap_or o 0) r.1)) (by_item r.0 at.item at.passes (slice_get kept_symbols r.0) refl (sym (slice_get-map al kept_symbols r.0) ∙ (ap (λ xs. slice_get xs r.0) (sym (standing_is run os p cut st)) ∙ at.there)))
    where
      kept_symbols : List InputSymbol
      kept_symbols = filter j.keep M

      by_item : (k : ℕ) (item : InputSymbol) → is_for p (al e) item ≡ true → (o : Option InputSymbol) → slice_get (filter j.keep M) k ≡ o → option_map al o ≡ Some item → Found e k
      by_item k item passes None is told = absurd cc
      by_item k item passes (Some y) is told =
          let f = has_filter j.keep M y (has_at (filter j.keep M) k y is) in
          record {
            by = y;
            there = f.0;
            kept = f.1;
            at = ap (λ xs. slice_get xs k) (sym (joined_middle run os p cut st)) ∙ (slice_get-map j.move (filter j.keep M) k ∙ ap (option_map j.move) is);
            passes = ap (is_for p (al e)) (some_is (al y) item told) ∙ passes;
          }

  -- an entry of the run alone that an object has
  pub entry_there : (x : InputSymbol) → Has p.entries x → not (x.input == 0) ≡ true → Has (all_symbols p) x × (is_entry x ≡ true)
  entry_there x has above =
      ⊎_elim (λ own. absurd (no_true (sym (ap (λ (n : ℕ). not (n == 0)) (all_has (λ (y : InputSymbol). y.input ≡ 0) (made_from 0 (made Plain)) (all_made (λ (y : InputSymbol). y.input ≡ 0) (λ place m. refl) 0 (made Plain)) x own)) ∙ above)))
      (λ rest. (subst (λ xs. Has xs x) (sym st.program) rest.0, rest.1))
      (entry_from RO x (subst (λ xs. Has xs x) nm.entries_are has))

  pub winner_entry : (w : InputSymbol) → Has p.winners w → Has p.entries w
  unfolding winners_of
  winner_entry w h = (has_filter (is_winner p.entries) p.entries w (subst (λ xs. Has xs w) nm.winners_are h)).0

  pub winner_test : (w : InputSymbol) → Has p.winners w → is_that w (winner p.entries (name_of w)) ≡ true
  unfolding winners_of
  winner_test w h = (has_filter (is_winner p.entries) p.entries w (subst (λ xs. Has xs w) nm.winners_are h)).1

  pub winner_there : (w : InputSymbol) → Has p.entries w → is_that w (winner p.entries (name_of w)) ≡ true → Has p.winners w
  unfolding winners_of
  winner_there w h t = subst (λ xs. Has xs w) (sym nm.winners_are) (filter_has (is_winner p.entries) p.entries w h t)

  none_lost : find (is_lost_there p) (all_symbols p) ≡ None
  unfolding open_local
  none_lost = by_find (find (is_lost_there p) (all_symbols p)) s.locals
    where
      by_find : (o : Option InputSymbol) → option_map (λ (x : InputSymbol). Unresolved (name_of x) x.input) o ≡ None → o ≡ None
      by_find None h = refl
      by_find (Some x) h = absurd cc

  -- Two entries of a name of one kind mean the same, both in the run.
  same_meaning : (e y : InputSymbol) → Has M e → Has M y → is_entry e ≡ true → is_entry y ≡ true → name_of y ≡ name_of e → kind_code y.symbol.kind ≡ kind_code e.symbol.kind → whole_meaning y ≡ whole_meaning e
  same_meaning e y he hy entry entry_too same kinds =
      ap (λ (b : Bool). if b then by_rules Plain no_uses allow (named es (name_of y)) y else own_meaning y) entry_too
      ∙ (ap (λ n. rule n (winner es n) (kind_code y.symbol.kind) (is_weak y.symbol)) same
      ∙ (ap (λ c. rule (name_of e) (winner es (name_of e)) c (is_weak y.symbol)) kinds
      ∙ (by_winner (winner es (name_of e)) refl
      ∙ sym (ap (λ (b : Bool). if b then by_rules Plain no_uses allow (named es (name_of e)) e else own_meaning e) entry))))
    where
      rule : List ℕ → Option InputSymbol → ℕ → Bool → Meaning
      rule n o c w = unwrap_or (first_some (
          option_map here o
          ∷ option_map imported (least_import (filter (λ r. is_explicit r.symbol) (references (named es n))))
          ∷ option_map imported (where_given (allow && (((c == kind_code Function) || (c == kind_code GlobalVar)) && list_any (λ r. not (is_weak r.symbol)) (references (named es n)))) (least_import (references (named es n))))
          ∷ given (w && ((c == kind_code Function) || (c == kind_code Datum))) null
          ∷ [])) nothing

      ref : (x : InputSymbol) → Has M x → is_entry x ≡ true → name_of x ≡ name_of e → Has (named (filter is_entry M) (name_of e)) x
      ref x hx ex nx = filter_has (is_named (name_of e)) (filter is_entry M) x (filter_has is_entry M x hx ex) (ap (λ n. bytes_eq n (name_of e)) nx ∙ name_itself (name_of e))

      by_winner : (o : Option InputSymbol) → winner es (name_of e) ≡ o → rule (name_of e) o (kind_code e.symbol.kind) (is_weak y.symbol) ≡ rule (name_of e) o (kind_code e.symbol.kind) (is_weak e.symbol)
      by_winner (Some d) won = refl
      by_winner None none =
          ap (rule (name_of e) None (kind_code e.symbol.kind))
          (sym (weak_all run os p cut st nm s.names.read.read op (name_of e) none y (ref y hy entry_too same)) ∙ weak_all run os p cut st nm s.names.read.read op (name_of e) none e (ref e he entry refl))

  module _ (e : InputSymbol) (has : Has M e) (section : is_kind Section e ≡ false) (ref : Ref) (referred : Has (refs_of p.parts) ref) (of : ref.entry ≡ al e) where
    -- ---- a local symbol

    has_name_some : is_some e.symbol.name ≡ true
    has_name_some =
        let f = has_flat (symbols_of W) os.middle e has in
        let sy = symbol_of W f.0 e f.2 in
        let so = all_has (λ (o : Object). (size : ℕ) × Sound size o) W s.sound f.0 (has_right os.before (os.middle ++ os.behind) f.0 (has_left os.middle os.behind f.0 f.1)) in
        let it : Sound so.0 f.0 = so.1 in
        ap (λ (x : InputSymbol). is_some x.symbol.name) (sym sy.is)
        ∙ all_has (λ x. is_section x.kind ≡ false → IsTrue (is_some x.name)) f.0.symbols it.names sy.symbol sy.there (no_section sy.symbol.kind (ap (λ (x : InputSymbol). kind_code x.symbol.kind == kind_code Section) sy.is ∙ section))
      where
        no_section : (k : SymbolKind) → (kind_code k == kind_code Section) ≡ false → is_section k ≡ false
        no_section Function h = refl
        no_section Datum h = refl
        no_section GlobalVar h = refl
        no_section Section h = absurd cc
        no_section Table h = refl

    local_is : is_entry e ≡ false → is_local_definition e.symbol ≡ true
    local_is entry = by_local (is_local_definition e.symbol) (sym (ap (λ (b : Bool). b && not (is_local_definition e.symbol)) has_name_some) ∙ entry)
      where
        by_local : (b : Bool) → (true && not b) ≡ false → b ≡ true
        by_local true h = refl
        by_local false h = absurd (no_true (sym h))

    local_defines : is_entry e ≡ false → (al e).defines ≡ true
    local_defines entry = by_defines (al e).defines refl
      where
        by_defines : (b : Bool) → (al e).defines ≡ b → b ≡ true
        by_defines true d = refl
        by_defines false d =
            absurd (not_found (is_lost_there p) (all_symbols p) none_lost (al e) (alone_there e has)
            (and_from (is_lost p (al e)) (list_any (λ (r : Ref). same_entry r.entry (al e)) (refs_of p.parts))
            (and_from (is_local_definition e.symbol) (not (al e).defines) (local_is entry) (ap not d))
            (any_has (λ (r : Ref). same_entry r.entry (al e)) (refs_of p.parts) ref referred (ap (λ x. same_entry x (al e)) of ∙ entry_itself (al e)))))

    local_stands : is_entry e ≡ false → Has (standing p) (al e)
    local_stands entry =
        filter_has (stands p) (all_symbols p) (al e) (alone_there e has)
        (ap (λ (b : Bool). if b then stands_for_name p (al e) (object_winner p (name_of e)) else ((al e).defines && not (is_kind Section e))) entry
        ∙ and_from (al e).defines (not (is_kind Section e)) (local_defines entry) (ap not section))

    local_stood : is_entry e ≡ false → StoodBy e (symbol_number p (al e))
    local_stood entry =
        let f = found e (al e) (local_stands entry) (is_for_local (al e) ∙ entry_itself (al e)) in
        let same : same_entry (al e) (al f.by) ≡ true = sym (is_for_local (al f.by)) ∙ f.passes in
        let it : f.by ≡ e = same_symbol f.by f.there same in
        record {
          by = f.by;
          there = f.there;
          kept = f.kept;
          at = f.at;
          kind = ap (λ (x : InputSymbol). x.symbol.kind) it;
          name = ap name_of it;
          entry = ap is_entry it;
          own = λ local. it;
          meaning = ap whole_meaning it;
        }
      where
        is_for_local : (x : InputSymbol) → is_for p (al e) x ≡ same_entry (al e) x
        is_for_local x = ap (λ (b : Bool). if b then is_entry x && is_named (name_of e) x else same_entry (al e) x) entry

        same_symbol : (y : InputSymbol) → Has M y → same_entry (al e) (al y) ≡ true → y ≡ e
        same_symbol y hy same =
            let a = and_parts ((al e).input == (al y).input) (e.place == y.place) same in
            let ie = of_run run os cut e has in
            let iy = of_run run os cut y hy in
            let inputs : y.input ≡ e.input = omega (arith, eqb-true (al e).input (al y).input a.0, ie.from, iy.from) in
            J.one y e (run_known y hy) (run_known e has) (and_from (y.input == e.input) (y.place == e.place) (eq-eqb y.input e.input inputs) (eq-eqb y.place e.place (sym (eqb-true e.place y.place a.1))))

    -- ---- an entry

    name_stands : is_entry e ≡ true → (x : InputSymbol) × Has (standing p) x × (is_for p (al e) x ≡ true)
    name_stands entry = by_winner (object_winner p (name_of e)) refl
      where
        fits : (x : InputSymbol) → is_entry x ≡ true → is_named (name_of e) x ≡ true → is_for p (al e) x ≡ true
        fits x ex nx = ap (λ (b : Bool). if b then is_entry x && is_named (name_of e) x else same_entry (al e) x) entry ∙ and_from (is_entry x) (is_named (name_of e) x) ex nx

        stands_as : (x : InputSymbol) → is_entry x ≡ true → is_named (name_of e) x ≡ true → (o : Option InputSymbol) → object_winner p (name_of e) ≡ o → stands_for_name p x o ≡ true → stands p x ≡ true
        stands_as x ex nx o won told =
            ap (λ (b : Bool). if b then stands_for_name p x (object_winner p (name_of x)) else (x.defines && not (is_kind Section x))) ex
            ∙ (ap (λ n. stands_for_name p x (object_winner p n)) (name_equal (name_of x) (name_of e) nx) ∙ (ap (stands_for_name p x) won ∙ told))

        referenced : is_referenced p (name_of e) ≡ true
        referenced =
            or_right (not (length (name_references p (name_of e)) == 0)) (list_any (names_it p (name_of e)) (refs_of p.parts))
            (any_has (names_it p (name_of e)) (refs_of p.parts) ref referred
            (ap (λ x. is_entry x && is_named (name_of e) x) of ∙ and_from (is_entry e) (is_named (name_of e) e) entry (name_itself (name_of e))))

        least_of : (o : Option InputSymbol) → least_in_object p (name_of e) ≡ o → object_winner p (name_of e) ≡ None → (x : InputSymbol) × Has (standing p) x × (is_for p (al e) x ≡ true)
        least_of None none won = absurd (not_found (λ x. not (x.input == 0) && is_named (name_of e) x) p.entries none (al e) own_there own_passes)
          where
            own_there : Has p.entries (al e)
            own_there = subst (λ xs. Has xs (al e)) (sym nm.entries_are) (linked_entry RO (al e) (subst (λ xs. Has xs (al e)) st.program (alone_there e has)) entry)

            own_passes : (not ((al e).input == 0) && is_named (name_of e) (al e)) ≡ true
            own_passes =
                let i = of_run run os cut e has in
                and_from (not ((al e).input == 0)) (is_named (name_of e) e) (ap not (ne_eqb (al e).input 0 (λ z. omega (arith, z, i.from)))) (name_itself (name_of e))
        least_of (Some l) some won =
            let f = find_has (λ x. not (x.input == 0) && is_named (name_of e) x) p.entries l some in
            let t = and_parts (not (l.input == 0)) (is_named (name_of e) l) f.1 in
            let there = entry_there l f.0 t.0 in (
              l,
              filter_has (stands p) (all_symbols p) l there.0
                  (stands_as l there.1 t.1 None won
                  (ap (λ n. is_that l (least_in_object p n) && is_referenced p n) (name_equal (name_of l) (name_of e) t.1)
                  ∙ (ap (λ o. is_that l o && is_referenced p (name_of e)) some ∙ and_from (same_entry l l) (is_referenced p (name_of e)) (entry_itself l) referenced))),
              fits l there.1 t.1,
            )

        by_winner : (o : Option InputSymbol) → object_winner p (name_of e) ≡ o → (x : InputSymbol) × Has (standing p) x × (is_for p (al e) x ≡ true)
        by_winner None won = least_of (least_in_object p (name_of e)) refl won
        by_winner (Some w) won =
            let f = find_has (λ x. not (x.input == 0) && is_named (name_of e) x) p.winners w won in
            let t = and_parts (not (w.input == 0)) (is_named (name_of e) w) f.1 in
            let there = entry_there w (winner_entry w f.0) t.0 in
            (w, filter_has (stands p) (all_symbols p) w there.0 (stands_as w there.1 t.1 (Some w) won (entry_itself w)), fits w there.1 t.1)

    entry_stood : is_entry e ≡ true → StoodBy e (symbol_number p (al e))
    entry_stood entry =
        let n = name_stands entry in
        let f = found e n.0 n.1 n.2 in
        let t = and_parts (is_entry f.by) (is_named (name_of e) f.by) (sym (ap (λ (b : Bool). if b then is_entry f.by && is_named (name_of e) f.by else same_entry (al e) (al f.by)) entry) ∙ f.passes) in
        let same : name_of f.by ≡ name_of e = name_equal (name_of f.by) (name_of e) t.1 in
        let kinds = (one_type es s.names.no_clash f.by e (entry_known f.by (run_known f.by f.there) t.0) (entry_known e (run_known e has) entry) same).0 in
        record {
          by = f.by;
          there = f.there;
          kept = f.kept;
          at = f.at;
          kind = kinds_equal f.by.symbol.kind e.symbol.kind kinds;
          name = same;
          entry = t.0 ∙ sym entry;
          own = λ local. absurd (no_true (sym local ∙ entry));
          meaning = same_meaning e f.by has f.there entry t.0 same kinds;
        }

    -- Each symbol of the run that a kept part refers to has one that stands for it.
    pub stood_by : StoodBy e (symbol_number p (al e))
    stood_by = by_entry (is_entry e) refl
      where
        by_entry : (b : Bool) → is_entry e ≡ b → StoodBy e (symbol_number p (al e))
        by_entry true entry = entry_stood entry
        by_entry false entry = local_stood entry
