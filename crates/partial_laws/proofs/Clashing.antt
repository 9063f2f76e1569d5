-- No names clash that didn't, where one object stands for a run.
use Rattle.std.proofs.Common.{◌≡◌, ℕ, ◌-◌, ◌==◌, Bool, true, false, not, ◌||◌, ◌&&◌, List, [], ◌∷◌, ◌++◌, map, filter, inl, inr, ⊎_elim, refl, sym, ap, subst, ◌∙◌, arith}
use Rattle.std.specs.Prelude.{◌⊎◌, if◌then◌else◌, Option, Some, None, unwrap_or, find, is_some, bytes_eq, codes, flat_map, IsTrue, All}
use Rattle.std.specs.List.{list_any, list_all}
use Rattle.std.proofs.lemmas.Bool.{and_from, ne_eqb}
use Rattle.list_places.specs.Has.{Has}
use Rattle.list_places.proofs.Lists.{has_filter, filter_has, has_map, all_has, find_has, has_any, some_is}
use Rattle.name_rules.specs.object_file.wl_base.Choice.{first_some}
use Rattle.name_rules.specs.object_file.linking_section.declared.symbol.SymbolKind.TheVariants.{Datum}
use Rattle.name_rules.specs.object_file.linking_section.Flags.{kind_code, is_weak, is_explicit, is_undefined}
use Rattle.made_symbols.specs.declared.mode.Mode.TheVariants.{Plain}
use Rattle.made_symbols.specs.Made.{made}
use Rattle.name_rules.specs.object_file.declared.object.Object.{Object}
use Rattle.name_rules.specs.Entries.{InputSymbol, ImportKey, name_of, is_kind, is_named, named, is_entry, entries, symbols_of, made_from}
use Rattle.name_rules.specs.Meanings.{where_given, least_import, definitions, winner}
use Rattle.name_rules.specs.Cases.{explicit_import, differ, first_entry}
use Rattle.link_rules.specs.Program.{Program, is_that, is_winner, winners_of}
use Rattle.partial_rules.specs.Partial.{is_none, object_winner, name_references, standing, is_open, open_import, open_symbol, defined_index}
use Rattle.partial_laws.specs.Joining.{Joining, joined, Kept, explicit_of}
use Rattle.partial_laws.specs.Inputs.{Run, Objects, whole_objects, run_objects, AreCut}
use Rattle.partial_laws.specs.Standing.{alone_symbol, joined_symbol, joining}
use Rattle.partial_laws.specs.Joined.{SymbolsStand, NamesStand, SymbolsRead, OpensStand}
use Rattle.partial_laws.proofs.Same.{name_itself, name_equal, entry_itself}
use Rattle.partial_laws.proofs.Flags.{open_explicit}
use Rattle.partial_laws.proofs.Symbols.{all_alone}
use Rattle.partial_laws.proofs.Joins.{all_made, joined_append, joined_made, not_after, not_before}
use Rattle.partial_laws.proofs.Groups.{find_append}
use Rattle.partial_laws.proofs.Instance.{all_from_has}
use Rattle.partial_laws.proofs.Leasts.{least_none}
use Rattle.partial_laws.proofs.Cases.{find_none, one_type}
use Rattle.partial_laws.proofs.Regions.{OfRun, of_run, run_linked, region, linked_entry, entry_from}
use Rattle.partial_laws.proofs.Won.{winning}
use Rattle.partial_laws.proofs.Fields.{Known, StandsThere, stands_there}
use Rattle.partial_laws.proofs.Opened.{all_true, some_import, none_here, definition}

no_true : false ≡ true → ⊥
no_true e = absurd cc

-- An import that is the least is that of one of them.
least_from : (rs : List InputSymbol) (k : ImportKey) → least_import rs ≡ Some k → (r : InputSymbol) × Has rs r × (r.import ≡ Some k)
least_from [] k e = absurd cc
least_from (r ∷ rs) k e = by_import r.import refl e (least_from rs k)
  where
    by_import : (o : Option ImportKey) → r.import ≡ o → first_some (o ∷ map (λ y. y.import) rs) ≡ Some k → (least_import rs ≡ Some k → (s : InputSymbol) × Has rs s × (s.import ≡ Some k)) → (s : InputSymbol) × Has (r ∷ rs) s × (s.import ≡ Some k)
    by_import (Some i) is found rest = (r, inl refl, is ∙ found)
    by_import None is found rest = let s = rest found in (s.0, inr s.1, s.2)

module _ (run : Run) (os : Objects) (p : Program) (cut : AreCut run os) (stand : SymbolsStand run os p) (names : NamesStand run os p) (read : SymbolsRead run os p) (open_ : OpensStand run os p) where
  abbrev W : List Object
  W = whole_objects os

  abbrev M : List InputSymbol
  M = flat_map (symbols_of W) os.middle

  abbrev E : List InputSymbol
  E = filter is_entry M

  abbrev es : List InputSymbol
  es = entries Plain W

  abbrev re : List InputSymbol
  re = entries Plain (run_objects run os)

  abbrev al : InputSymbol → InputSymbol
  al = alone_symbol run os

  abbrev js : InputSymbol → InputSymbol
  js = joined_symbol run os p

  abbrev j : Joining
  j = joining run os p

  run_entry : (u : InputSymbol) → Has M u → is_entry u ≡ true → Has es u
  run_entry u has entry = linked_entry W u (run_linked run os cut u has) entry

  -- The import that a kept entry names itself is that of an entry of its name, or none.
  abbrev Spoken : InputSymbol → InputSymbol → Type 0
  Spoken e f = (explicit_import f ≡ None) ⊎ ((d : InputSymbol) × Has es d × (name_of d ≡ name_of e) × (explicit_import d ≡ explicit_import f))

  module _ (e : InputSymbol) (s : StandsThere run os p cut stand names read e) (entry : is_entry e ≡ true) (unmade : All (λ (m : InputSymbol). is_named (name_of e) m ≡ false) (made_from 0 (made Plain))) (opened : is_open p (al e) ≡ true) where
    abbrev n : List ℕ
    n = name_of e

    and_false : (b : Bool) → (b && false) ≡ false
    and_false true = refl
    and_false false = refl

    not_made : (w : InputSymbol) → Has (made_from 0 (made Plain)) w → name_of w ≡ name_of e → ⊥
    not_made w is named_so =
        no_true (sym (all_has (λ (m : InputSymbol). is_named (name_of e) m ≡ false) (made_from 0 (made Plain)) unmade w is) ∙ (ap (λ k. bytes_eq k (name_of e)) named_so ∙ name_itself (name_of e)))

    -- no object wins it
    no_object : object_winner p (name_of e) ≡ None
    no_object = by_found (object_winner p (name_of e)) refl
      where
        by_found : (o : Option InputSymbol) → object_winner p (name_of e) ≡ o → o ≡ None
        by_found None found = refl
        by_found (Some y) found = absurd (no_true (sym (ap (λ o. is_entry e && is_none o) found ∙ and_false (is_entry e)) ∙ opened))

    -- nor the linker, so nothing defines it in the run alone
    no_alone : definitions re (name_of e) ≡ []
    unfolding winners_of
    no_alone = by_winner (winner re (name_of e)) refl
      where
        wins : (w : InputSymbol) → winner re (name_of e) ≡ Some w → Has p.winners w
        wins w some =
            let won = winning re (name_of e) w some in
            subst (λ xs. Has xs w) (sym (names.winners_are ∙ ap (λ xs. filter (is_winner xs) xs) names.entries_are))
            (filter_has (is_winner re) re w won.entry (ap (λ k. is_that w (winner re k)) won.named_so ∙ (ap (is_that w) some ∙ entry_itself w)))

        by_origin : (w : InputSymbol) → winner re (name_of e) ≡ Some w → (Has (made_from 0 (made Plain)) w ⊎ (Has (flat_map (symbols_of (run_objects run os)) (run_objects run os)) w × (is_entry w ≡ true))) → ⊥
        by_origin w some (inl is) = not_made w is (winning re (name_of e) w some).named_so
        by_origin w some (inr is) =
            let m = has_map al M w (subst (λ xs. Has xs w) (all_alone run os cut stand.found) is.0) in
            let i = of_run run os cut m.0 m.1 in
            let high : not (w.input == 0) ≡ true = ap (λ (x : InputSymbol). not (x.input == 0)) (sym m.2) ∙ ap not (ne_eqb (m.0.input - run.first) 0 (λ q. omega (arith, i.from, q))) in
            no_true (sym (find_none (λ y. not (y.input == 0) && is_named (name_of e) y) p.winners no_object w (wins w some))
            ∙ and_from (not (w.input == 0)) (is_named (name_of e) w) high (ap (λ k. bytes_eq k (name_of e)) (winning re (name_of e) w some).named_so ∙ name_itself (name_of e)))

        by_winner : (o : Option InputSymbol) → winner re (name_of e) ≡ o → definitions re (name_of e) ≡ []
        by_winner None none = least_none (definitions re (name_of e)) none
        by_winner (Some w) some = absurd (by_origin w some (entry_from (run_objects run os) w (winning re (name_of e) w some).entry))

    -- ---- its references

    record Reference (x : InputSymbol) : Type 0 where
      symbol : InputSymbol
      there : Has M symbol
      listed : is_entry symbol ≡ true
      named_so : name_of symbol ≡ name_of e
      alone_is : al symbol ≡ x

    reference : (x : InputSymbol) → Has (name_references p (name_of e)) x → Reference x
    reference x has =
        let f = has_filter (λ y. not y.defines) (named p.entries (name_of e)) x has in
        let g = has_filter (is_named (name_of e)) p.entries x f.0 in
        let named_so : name_of x ≡ name_of e = name_equal (name_of x) (name_of e) g.1 in
        by_origin x named_so (entry_from (run_objects run os) x (subst (λ xs. Has xs x) names.entries_are g.0))
      where
        by_origin : (x : InputSymbol) → name_of x ≡ name_of e → (Has (made_from 0 (made Plain)) x ⊎ (Has (flat_map (symbols_of (run_objects run os)) (run_objects run os)) x × (is_entry x ≡ true))) → Reference x
        by_origin x named_so (inl is) = absurd (not_made x is named_so)
        by_origin x named_so (inr is) =
            let m = has_map al M x (subst (λ xs. Has xs x) (all_alone run os cut stand.found) is.0) in
            record { symbol = m.0; there = m.1; listed = ap (λ y. is_entry y) m.2 ∙ is.1; named_so = ap (λ y. name_of y) m.2 ∙ named_so; alone_is = m.2 }

    same_kind : (x : InputSymbol) (r : Reference x) → kind_code r.symbol.symbol.kind ≡ kind_code e.symbol.kind
    same_kind x r = (one_type es open_.no_clash r.symbol e (run_entry r.symbol r.there r.listed) (run_entry e s.inside.there entry) r.named_so).0

    -- one that has EXPLICIT_NAME stands on an import, unless it is a datum
    on_import : is_kind Datum e ≡ false → (x : InputSymbol) → Has (name_references p (name_of e)) x → is_some x.import ≡ true
    on_import datum x has =
        let r = reference x has in
        ap (λ (y : InputSymbol). is_some y.import) (sym r.alone_is)
        ∙ all_has (λ (y : InputSymbol). is_entry y ≡ true → is_undefined y.symbol ≡ true → is_kind Datum y ≡ false → is_some y.import ≡ true) M open_.on_import r.symbol r.there r.listed
        (by_undefined r (is_undefined r.symbol.symbol) refl) (ap (λ k. k == kind_code Datum) (same_kind x r) ∙ datum)
      where
        alone_undefined : (r : Reference x) → (al r.symbol).defines ≡ false
        alone_undefined r =
            let f = has_filter (λ y. not y.defines) (named p.entries (name_of e)) x has in
            ap (λ (y : InputSymbol). y.defines) r.alone_is ∙ not_true x.defines f.1
          where
            not_true : (b : Bool) → not b ≡ true → b ≡ false
            not_true true h = absurd (no_true h)
            not_true false h = refl

        by_undefined : (r : Reference x) (b : Bool) → is_undefined r.symbol.symbol ≡ b → b ≡ true
        by_undefined r true q = refl
        by_undefined r false q =
            let d = all_has (λ (y : InputSymbol). is_entry y ≡ true → (al y).defines ≡ false → is_undefined y.symbol ≡ false
            → (z : InputSymbol) × Has p.entries z × (name_of z ≡ name_of y) × (z.defines ≡ true)) M open_.dropped r.symbol r.there r.listed (alone_undefined r) q in
            absurd (none_here (definitions re (name_of e)) d.0 (definition re d.0 (name_of e) (subst (λ xs. Has xs d.0) names.entries_are d.1) (d.2 ∙ r.named_so) d.3) no_alone)

    symbol_is : (js (al e)).symbol ≡ open_symbol p (al e)
    symbol_is = ap (λ (b : Bool). if b then open_symbol p (al e) else record e.symbol { index = defined_index p (al e) e.symbol.kind }) opened

    import_is : (js (al e)).import ≡ (if is_kind Datum e then None else Some (open_import p (al e)))
    import_is = all_has (λ (x : InputSymbol). is_open p x ≡ true → (js x).import ≡ (if is_kind Datum x then None else Some (open_import p x))) (standing p) read.import (al e) s.there opened

    open_spoken : Spoken e (js (al e))
    open_spoken = by_datum (is_kind Datum e) refl
      where
        flag : is_explicit (js (al e)).symbol ≡ list_any (λ r. is_explicit r.symbol) (name_references p (name_of e))
        flag = ap is_explicit symbol_is ∙ open_explicit e.symbol.flags (list_all (λ r. is_weak r.symbol) (name_references p (name_of e))) (list_any (λ r. is_explicit r.symbol) (name_references p (name_of e)))

        given_none : (b : Bool) → where_given {A = ImportKey} b None ≡ None
        given_none true = refl
        given_none false = refl

        by_least : is_kind Datum e ≡ false → list_any (λ r. is_explicit r.symbol) (name_references p (name_of e)) ≡ true → (o : Option ImportKey) → least_import (explicit_of (name_references p (name_of e))) ≡ o → Spoken e (js (al e))
        by_least datum some None least_is =
            let r = has_any (λ v. is_explicit v.symbol) (name_references p (name_of e)) some in
            absurd (some_import (explicit_of (name_references p (name_of e))) r.0 (filter_has (λ v. is_explicit v.symbol) (name_references p (name_of e)) r.0 r.1 r.2) (on_import datum r.0 r.1) least_is)
        by_least datum some (Some k) least_is =
            let t = least_from (explicit_of (name_references p (name_of e))) k least_is in
            let f = has_filter (λ v. is_explicit v.symbol) (name_references p (name_of e)) t.0 t.1 in
            let r = reference t.0 f.0 in
            let own : explicit_import r.symbol ≡ Some k =
            ap (λ (y : InputSymbol). explicit_import y) r.alone_is ∙ (ap (λ (b : Bool). where_given b t.0.import) f.1 ∙ t.2) in
            let there : explicit_import (js (al e)) ≡ Some k =
            ap (λ (b : Bool). where_given b (js (al e)).import) (flag ∙ some)
            ∙ (import_is ∙ (ap (λ (b : Bool). if b then None else Some (open_import p (al e))) datum
            ∙ ap (λ o. Some (unwrap_or (first_some (o ∷ least_import (name_references p (name_of e)) ∷ [])) (record { module_name = codes "env"; field = name_of e; type = e.type }))) least_is)) in
            inr (r.symbol, run_entry r.symbol r.there r.listed, r.named_so, own ∙ sym there)

        by_any : is_kind Datum e ≡ false → (b : Bool) → list_any (λ r. is_explicit r.symbol) (name_references p (name_of e)) ≡ b → Spoken e (js (al e))
        by_any datum true some = by_least datum some (least_import (explicit_of (name_references p (name_of e)))) refl
        by_any datum false none = inl (ap (λ (b : Bool). where_given b (js (al e)).import) (flag ∙ none))

        by_datum : (b : Bool) → is_kind Datum e ≡ b → Spoken e (js (al e))
        by_datum true datum =
            inl (ap (where_given (is_explicit (js (al e)).symbol)) (import_is ∙ ap (λ (b : Bool). if b then None else Some (open_import p (al e))) datum) ∙ given_none (is_explicit (js (al e)).symbol))
        by_datum false datum = by_any datum (list_any (λ r. is_explicit r.symbol) (name_references p (name_of e))) refl

  -- ---- all that is kept

  spoken : (e : InputSymbol) → Has es e → is_entry e ≡ true → Kept j (Known run os p cut stand names read) e → All (λ (m : InputSymbol). is_named (name_of e) m ≡ false) (made_from 0 (made Plain)) → Spoken e (j.move e)
  spoken e has entry kept unmade =
      ⊎_elim (λ le. inr (e, has, refl, ap (λ y. explicit_import y) (sym (not_after run os p cut stand e le).1)))
      (λ rest. ⊎_elim
      (λ (inside : OfRun run os cut e). let t = stands_there run os p cut stand names read e inside kept.kept in subst (Spoken e) (sym t.moves) (by_openness t (is_open p (al e)) refl))
      (λ lt. inr (e, has, refl, ap (λ y. explicit_import y) (sym (not_before run os p cut stand e lt).1))) rest)
      (region run os cut e kept.symbol)
    where
      by_openness : StandsThere run os p cut stand names read e → (b : Bool) → is_open p (al e) ≡ b → Spoken e (js (al e))
      by_openness t true o = open_spoken e t entry unmade o
      by_openness t false o =
          inr (
            e,
            has,
            refl,
            sym (
                ap (λ s. where_given (is_explicit s) (js (al e)).import) (ap (λ (b : Bool). if b then open_symbol p (al e) else record e.symbol { index = defined_index p (al e) e.symbol.kind }) o)
                ∙ ap (where_given (is_explicit e.symbol)) (all_has (λ (x : InputSymbol). is_open p x ≡ false → (js x).import ≡ x.import) (standing p) read.closed_import (al e) t.there o)),
          )

  -- An entry's name that the linker has has the linker's entry first.
  any_made : (n : List ℕ) → (All (λ (m : InputSymbol). is_named n m ≡ false) (made_from 0 (made Plain))) ⊎ ((m : InputSymbol) × Has (made_from 0 (made Plain)) m × (find (is_named n) (made_from 0 (made Plain)) ≡ Some m))
  any_made n = by_found (find (is_named n) (made_from 0 (made Plain))) refl
    where
      by_found : (o : Option InputSymbol) → find (is_named n) (made_from 0 (made Plain)) ≡ o
          → (All (λ (m : InputSymbol). is_named n m ≡ false) (made_from 0 (made Plain))) ⊎ ((m : InputSymbol) × Has (made_from 0 (made Plain)) m × (find (is_named n) (made_from 0 (made Plain)) ≡ Some m))
      by_found None none = inl (all_from_has (λ (m : InputSymbol). is_named n m ≡ false) (made_from 0 (made Plain)) (λ m has. find_none (is_named n) (made_from 0 (made Plain)) none m has))
      by_found (Some m) found = inr (m, (find_has (is_named n) (made_from 0 (made Plain)) m found).0, found)

  differ_none : (o : Option ImportKey) → differ o None ≡ false
  differ_none None = refl
  differ_none (Some k) = refl

  explicit_true : IsTrue (list_all (λ a. list_all (λ b. not (is_named (name_of a) b) || not (differ (explicit_import a) (explicit_import b))) es) es)
      → (a b : InputSymbol) → Has es a → Has es b → name_of b ≡ name_of a → differ (explicit_import a) (explicit_import b) ≡ false
  explicit_true told a b ha hb name =
      let t = all_true (λ y. not (is_named (name_of a) y) || not (differ (explicit_import a) (explicit_import y))) es
      (all_true (λ x. list_all (λ y. not (is_named (name_of x) y) || not (differ (explicit_import x) (explicit_import y))) es) es told a ha) b hb in
      to_false (differ (explicit_import a) (explicit_import b))
      (sym (ap (λ (n : Bool). not n || not (differ (explicit_import a) (explicit_import b))) (ap (λ k. bytes_eq k (name_of a)) name ∙ name_itself (name_of a))) ∙ t)
    where
      to_false : (d : Bool) → not d ≡ true → d ≡ false
      to_false true h = absurd (no_true h)
      to_false false h = refl

  pub explicit_agrees : IsTrue (list_all (λ a. list_all (λ b. not (is_named (name_of a) b) || not (differ (explicit_import a) (explicit_import b))) es) es)
      → (entries_are : All (λ (e : InputSymbol). is_entry e ≡ true) es) → ((e : InputSymbol) → Kept j (Known run os p cut stand names read) e → name_of (j.move e) ≡ name_of e)
      → (a b : InputSymbol) → Has es a → Has es b → Kept j (Known run os p cut stand names read) a → Kept j (Known run os p cut stand names read) b → name_of a ≡ name_of b → first_entry (joined j es) (name_of b) ≡ Some (j.move a)
      → differ (explicit_import (j.move a)) (explicit_import (j.move b)) ≡ false
  unfolding entries
  explicit_agrees told entries_are names_stay a b ha hb ka kb name first =
      ⊎_elim (λ unmade. by_spoken
      (spoken a ha (all_has (λ (e : InputSymbol). is_entry e ≡ true) (entries Plain (whole_objects os)) entries_are a ha) ka (subst (λ n. All (λ (m : InputSymbol). is_named n m ≡ false) (made_from 0 (made Plain))) (sym name) unmade))
      (spoken b hb (all_has (λ (e : InputSymbol). is_entry e ≡ true) (entries Plain (whole_objects os)) entries_are b hb) kb unmade))
      (λ m. by_made m.0 m.1 m.2) (any_made (name_of b))
    where
      by_made : (m : InputSymbol) → Has (made_from 0 (made Plain)) m → find (is_named (name_of b)) (made_from 0 (made Plain)) ≡ Some m → differ (explicit_import (j.move a)) (explicit_import (j.move b)) ≡ false
      by_made m has found =
          let at_first : first_entry (joined j (entries Plain (whole_objects os))) (name_of b) ≡ Some m =
          ap (find (is_named (name_of b)))
          (joined_append j (made_from 0 (made Plain)) (filter is_entry (flat_map (symbols_of (whole_objects os)) (whole_objects os)))
          ∙ ap (λ xs. xs ++ joined j (filter is_entry (flat_map (symbols_of (whole_objects os)) (whole_objects os)))) (joined_made run os p cut stand))
          ∙ (find_append (is_named (name_of b)) (made_from 0 (made Plain)) (joined j (filter is_entry (flat_map (symbols_of (whole_objects os)) (whole_objects os))))
          ∙ ap (λ o. first_some (o ∷ find (is_named (name_of b)) (joined j (filter is_entry (flat_map (symbols_of (whole_objects os)) (whole_objects os)))) ∷ [])) found) in
          let it : j.move a ≡ m = some_is (j.move a) m (sym first ∙ at_first) in
          ap (λ x. differ (explicit_import x) (explicit_import (j.move b))) it
          ∙ ap (λ (o : Option ImportKey). differ o (explicit_import (j.move b)))
          (all_has (λ (x : InputSymbol). explicit_import x ≡ None) (made_from 0 (made Plain)) (all_made (λ (x : InputSymbol). explicit_import x ≡ None) (λ place k. refl) 0 (made Plain)) m has)

      by_spoken : Spoken a (j.move a) → Spoken b (j.move b) → differ (explicit_import (j.move a)) (explicit_import (j.move b)) ≡ false
      by_spoken (inl none) y = ap (λ o. differ o (explicit_import (j.move b))) none
      by_spoken (inr x) (inl none) = ap (differ (explicit_import (j.move a))) none ∙ differ_none (explicit_import (j.move a))
      by_spoken (inr x) (inr y) =
          ap (λ o. differ o (explicit_import (j.move b))) (sym x.3) ∙ (ap (differ (explicit_import x.0)) (sym y.3)
          ∙ explicit_true told x.0 y.0 x.1 y.1 (y.2 ∙ (sym name ∙ sym x.2)))
