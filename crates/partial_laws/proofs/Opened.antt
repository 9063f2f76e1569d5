-- What stands for the references of the run to a name that nothing defines.
use Rattle.std.proofs.Common.{◌≡◌, ℕ, ◌-◌, ◌==◌, Bool, true, false, not, ◌||◌, ◌&&◌, cond, List, [], ◌∷◌, ◌++◌, map, filter, length, inl, inr, ⊎_elim, refl, sym, ap, subst, ◌∙◌, arith}
use Rattle.std.specs.Prelude.{if◌then◌else◌, Option, Some, None, find, is_some, bytes_eq, flat_map, unwrap_or, codes}
use Rattle.std.specs.List.{list_any, list_all}
use Rattle.std.proofs.lemmas.Bool.{and_parts, and_from, ne_eqb}
use Rattle.list_places.specs.Has.{Has, Apart}
use Rattle.list_places.proofs.Lists.{has_filter, filter_has, has_map, map_has, all_has, find_has, any_has, has_any, apart_filter}
use Rattle.name_rules.specs.object_file.wl_base.Choice.{first_some}
use Rattle.name_rules.specs.object_file.linking_section.declared.symbol.SymbolKind.TheVariants.{Datum, Section}
use Rattle.name_rules.specs.object_file.linking_section.Flags.{kind_code, is_weak, is_explicit, is_undefined}
use Rattle.made_symbols.specs.declared.mode.Mode.TheVariants.{Plain}
use Rattle.made_symbols.specs.Made.{made}
use Rattle.name_rules.specs.object_file.declared.object.Object.{Object}
use Rattle.name_rules.specs.Entries.{InputSymbol, ImportKey, name_of, is_kind, is_named, named, is_entry, entries, symbols_of, made_from, same_entry}
use Rattle.name_rules.specs.Meanings.{references, least_import, definitions, least, winner}
use Rattle.link_rules.specs.Program.{Program, is_that, is_winner, winners_of}
use Rattle.link_rules.specs.Marks.{all_symbols, refs_of}
use Rattle.partial_rules.specs.Partial.{is_none, object_winner, least_in_object, name_references, names_it, is_referenced, stands, stands_for_name, standing, is_open, open_import, open_symbol, defined_index}
use Rattle.partial_laws.specs.Premises.{open_symbols, are_alike}
use Rattle.partial_laws.specs.Joining.{Joining, explicit_of}
use Rattle.partial_laws.specs.Opens.{StandsFor, AreStoodFor}
use Rattle.partial_laws.specs.Inputs.{Run, Objects, whole_objects, run_objects, AreCut}
use Rattle.partial_laws.specs.Standing.{alone_symbol, joined_symbol, joining}
use Rattle.partial_laws.specs.Joined.{SymbolsStand, NamesStand, SymbolsRead, OpensStand, IsBefore}
use Rattle.partial_laws.proofs.Same.{name_itself, name_equal, entry_itself}
use Rattle.partial_laws.proofs.Lists.{filter_of_map, any_of_map}
use Rattle.partial_laws.proofs.Flags.{open_weak, open_explicit}
use Rattle.partial_laws.proofs.Symbols.{all_alone}
use Rattle.partial_laws.proofs.Joins.{all_made}
use Rattle.partial_laws.proofs.Leasts.{least_none}
use Rattle.partial_laws.proofs.Cases.{one_type}
use Rattle.partial_laws.proofs.Regions.{OfRun, of_run, run_linked, entries_turned, linked_entry, made_linked}
use Rattle.partial_laws.proofs.Joins.{of_run as run_inside}

no_true : false ≡ true → ⊥
no_true e = absurd cc

pub none_here : {A : Type 0} (xs : List A) (x : A) → Has xs x → xs ≡ [] → ⊥
none_here [] x has e = has
none_here (y ∷ ys) x has e = absurd cc

pub definition : (es : List InputSymbol) (e : InputSymbol) (name : List ℕ) → Has es e → name_of e ≡ name → e.defines ≡ true → Has (definitions es name) e
definition es e name has named_so defines =
    filter_has (λ x. x.defines) (named es name) e (filter_has (is_named name) es e has (ap (λ n. bytes_eq n name) named_so ∙ name_itself name)) defines

-- nothing is left of what fails
filter_nothing : {A : Type 0} (t : A → Bool) (xs : List A) → ((x : A) → Has xs x → t x ≡ false) → filter t xs ≡ []
filter_nothing t [] fails = refl
filter_nothing t (x ∷ xs) fails = rw (fails x (inl refl), filter_nothing t xs (λ y has. fails y (inr has))) refl

filter_append : {A : Type 0} (t : A → Bool) (xs ys : List A) → filter t (xs ++ ys) ≡ filter t xs ++ filter t ys
filter_append t [] ys = refl
filter_append t (x ∷ xs) ys = ap (λ zs. cond (t x) (x ∷ zs) zs) (filter_append t xs ys) ∙ by_test (t x)
  where
    by_test : (b : Bool) → cond b (x ∷ (filter t xs ++ filter t ys)) (filter t xs ++ filter t ys) ≡ cond b (x ∷ filter t xs) (filter t xs) ++ filter t ys
    by_test true = refl
    by_test false = refl

filter_everything : {A : Type 0} (t : A → Bool) (xs : List A) → ((x : A) → Has xs x → t x ≡ true) → filter t xs ≡ xs
filter_everything t [] passes = refl
filter_everything t (x ∷ xs) passes = rw (passes x (inl refl), filter_everything t xs (λ y has. passes y (inr has))) refl

filter_same : {A : Type 0} (t u : A → Bool) (xs : List A) → ((x : A) → Has xs x → t x ≡ u x) → filter t xs ≡ filter u xs
filter_same t u [] same = refl
filter_same t u (x ∷ xs) same = rw (same x (inl refl), filter_same t u xs (λ y has. same y (inr has))) refl

all_of_map : {A B : Type 0} (f : A → B) (t : B → Bool) (xs : List A) → list_all t (map f xs) ≡ list_all (λ x. t (f x)) xs
all_of_map f t [] = refl
all_of_map f t (x ∷ xs) = ap (λ b. t (f x) && b) (all_of_map f t xs)

-- what stands first
find_first : {A : Type 0} (t : A → Bool) (xs : List A) (y : A) (ys : List A) → filter t xs ≡ y ∷ ys → find t xs ≡ Some y
find_first t [] y ys e = absurd cc
find_first {A} t (x ∷ xs) y ys e = by_test (t x) e (find_first t xs y ys)
  where
    by_test : (b : Bool) → cond b (x ∷ filter t xs) (filter t xs) ≡ y ∷ ys → (filter t xs ≡ y ∷ ys → find t xs ≡ Some y) → (if b then Some x else find t xs) ≡ Some y
    by_test true e rest = ap Some (head_is x y (filter t xs) ys e)
      where
        head_is : (a b : A) (as' bs : List A) → a ∷ as' ≡ b ∷ bs → a ≡ b
        head_is a b as' bs e = cc
    by_test false e rest = rest e

-- imports of symbols that are none
no_imports : (refs : List InputSymbol) → ((r : InputSymbol) → Has refs r → r.import ≡ None) → least_import refs ≡ None
no_imports [] none = refl
no_imports (r ∷ rs) none = ap (λ o. first_some (o ∷ map (λ e. e.import) rs)) (none r (inl refl)) ∙ no_imports rs (λ x has. none x (inr has))

imports_of_map : (f : InputSymbol → InputSymbol) → ((x : InputSymbol) → (f x).import ≡ x.import) → (xs : List InputSymbol) → least_import (map f xs) ≡ least_import xs
imports_of_map f same [] = refl
imports_of_map f same (x ∷ xs) = by_import x.import (imports_of_map f same xs) ∙ refl
  where
    by_import : (o : Option ImportKey) → least_import (map f xs) ≡ least_import xs → first_some ((f x).import ∷ map (λ e. e.import) (map f xs)) ≡ first_some (x.import ∷ map (λ e. e.import) xs)
    by_import o rest = ap (λ i. first_some (i ∷ map (λ e. e.import) (map f xs))) (same x) ∙ last x.import
      where
        last : (i : Option ImportKey) → first_some (i ∷ map (λ e. e.import) (map f xs)) ≡ first_some (i ∷ map (λ e. e.import) xs)
        last None = rest
        last (Some k) = refl

pub all_true : {A : Type 0} (t : A → Bool) (xs : List A) → list_all t xs ≡ true → (x : A) → Has xs x → t x ≡ true
all_true t [] e x has = absurd has
all_true t (y ∷ ys) e x (inl is) = ap t (sym is) ∙ (and_parts (t y) (list_all t ys) e).0
all_true t (y ∷ ys) e x (inr below) = all_true t ys (and_parts (t y) (list_all t ys) e).1 x below

-- where one stands on an import
pub some_import : (rs : List InputSymbol) (r : InputSymbol) → Has rs r → is_some r.import ≡ true → least_import rs ≡ None → ⊥
some_import [] r has some e = has
some_import (x ∷ xs) r has some e = by_import x.import refl e (some_import xs r)
  where
    by_import : (o : Option ImportKey) → x.import ≡ o → first_some (o ∷ map (λ y. y.import) xs) ≡ None → (Has xs r → is_some r.import ≡ true → least_import xs ≡ None → ⊥) → ⊥
    by_import (Some k) is found rest = absurd cc
    by_import None is found rest =
        ⊎_elim (λ (it : x ≡ r). no_true (sym (ap is_some (ap (λ (y : InputSymbol). y.import) (sym it) ∙ is)) ∙ some)) (λ below. rest below some found) has

-- where all or none are, all are as each
weak_told : (xs : List InputSymbol) (u : InputSymbol) → Has xs u → (list_all (λ r. is_weak r.symbol) xs || not (list_any (λ r. is_weak r.symbol) xs)) ≡ true → list_all (λ r. is_weak r.symbol) xs ≡ is_weak u.symbol
weak_told xs u there told = choose (list_all (λ r. is_weak r.symbol) xs) refl told
  where
    choose : (b : Bool) → list_all (λ r. is_weak r.symbol) xs ≡ b → (b || not (list_any (λ r. is_weak r.symbol) xs)) ≡ true → b ≡ is_weak u.symbol
    choose true all t = sym (all_true (λ r. is_weak r.symbol) xs all u there)
    choose false all t = none_weak (is_weak u.symbol) refl
      where
        none_weak : (w : Bool) → is_weak u.symbol ≡ w → false ≡ w
        none_weak false is = refl
        none_weak true is = absurd (no_true (sym (ap not (any_has (λ r. is_weak r.symbol) xs u there is)) ∙ t))

module _ (run : Run) (os : Objects) (p : Program) (cut : AreCut run os) (stand : SymbolsStand run os p) (names : NamesStand run os p) (read : SymbolsRead run os p) (open_ : OpensStand run os p) where
  abbrev W : List Object
  W = whole_objects os

  abbrev M : List InputSymbol
  M = flat_map (symbols_of W) os.middle

  -- the entries of the run
  abbrev pub E : List InputSymbol
  E = filter is_entry M

  abbrev es : List InputSymbol
  es = entries Plain W

  abbrev re : List InputSymbol
  re = entries Plain (run_objects run os)

  abbrev al : InputSymbol → InputSymbol
  al = alone_symbol run os

  abbrev js : InputSymbol → InputSymbol
  js = joined_symbol run os p

  abbrev j : Joining
  j = joining run os p

  run_entry : (u : InputSymbol) → Has E u → Has es u
  run_entry u has = let f = has_filter is_entry M u has in linked_entry W u (run_linked run os cut u f.0) f.1

  no_definition : (name : List ℕ) → winner es name ≡ None → (d : InputSymbol) → Has es d → name_of d ≡ name → d.defines ≡ true → ⊥
  no_definition name none d has named_so defines = none_here (definitions es name) d (definition es d name has named_so defines) (least_none (definitions es name) none)

  re_is : re ≡ made_from 0 (made Plain) ++ map al E
  unfolding entries
  re_is =
      ap (λ xs. made_from 0 (made Plain) ++ filter is_entry xs) (all_alone run os cut stand.found)
      ∙ ap (λ xs. made_from 0 (made Plain) ++ xs) (filter_of_map al is_entry M)

  module _ (name : List ℕ) (none : winner es name ≡ None) where
    -- no symbol of the run defines the name, in the run alone either
    pub none_alone : (u : InputSymbol) → Has E u → name_of u ≡ name → (al u).defines ≡ false
    none_alone u has named_so = by_alone (al u).defines refl
      where
        by_whole : (b : Bool) → u.defines ≡ b → (al u).defines ≡ true → ⊥
        by_whole true d alone_d = no_definition name none u (run_entry u has) named_so d
        by_whole false d alone_d =
            let f = has_filter is_entry M u has in
            let t = all_has (λ (e : InputSymbol). is_entry e ≡ true → e.defines ≡ false → (al e).defines ≡ true → (x : InputSymbol) × IsBefore run os p e x) M names.taken u f.0 f.1 d alone_d in
            no_definition name none t.0 t.1.entry (t.1.name ∙ named_so) t.1.defines

        by_alone : (b : Bool) → (al u).defines ≡ b → b ≡ false
        by_alone true d = absurd (by_whole u.defines refl d)
        by_alone false d = refl

    made_unnamed : (e : InputSymbol) → Has (made_from 0 (made Plain)) e → is_named name e ≡ false
    made_unnamed e has = by_name (is_named name e) refl
      where
        by_name : (b : Bool) → is_named name e ≡ b → b ≡ false
        by_name true is =
            absurd (no_definition name none e (made_linked W e has) (name_equal (name_of e) name is)
            (all_has (λ (x : InputSymbol). x.defines ≡ true) (made_from 0 (made Plain)) (all_made (λ (x : InputSymbol). x.defines ≡ true) (λ place m. refl) 0 (made Plain)) e has))
        by_name false is = refl

    -- the entries of the name in the run alone
    named_alone : named re name ≡ map al (named E name)
    named_alone =
        ap (filter (is_named name)) re_is
        ∙ (filter_append (is_named name) (made_from 0 (made Plain)) (map al E)
        ∙ (ap (λ xs. xs ++ filter (is_named name) (map al E)) (filter_nothing (is_named name) (made_from 0 (made Plain)) made_unnamed)
        ∙ filter_of_map al (is_named name) E))

    -- all of them are references
    refs_alone : name_references p name ≡ map al (named E name)
    refs_alone =
        ap (λ xs. references (named xs name)) names.entries_are
        ∙ (ap references named_alone ∙ filter_everything (λ e. not e.defines) (map al (named E name)) each)
      where
        each : (x : InputSymbol) → Has (map al (named E name)) x → not x.defines ≡ true
        each x has =
            let m = has_map al (named E name) x has in
            let f = has_filter (is_named name) E m.0 m.1 in
            ap not (ap (λ (y : InputSymbol). y.defines) (sym m.2) ∙ none_alone m.0 f.0 (name_equal (name_of m.0) name f.1))

    -- none is a definition
    no_alone : definitions re name ≡ []
    no_alone =
        ap (filter (λ e. e.defines)) named_alone
        ∙ filter_nothing (λ e. e.defines) (map al (named E name)) (λ x has_x.
        let m = has_map al (named E name) x has_x in
        let f = has_filter (is_named name) E m.0 m.1 in
        ap (λ (z : InputSymbol). z.defines) (sym m.2) ∙ none_alone m.0 f.0 (name_equal (name_of m.0) name f.1))

    -- so no object wins it
    no_winner : object_winner p name ≡ None
    unfolding winners_of
    no_winner = by_found (object_winner p name) refl
      where
        none_named : (y : InputSymbol) → Has re y → is_winner re y ≡ true → name_of y ≡ name → ⊥
        none_named y has is named_so =
            let m = has_map al (named E name) y (subst (λ xs. Has xs y) named_alone (filter_has (is_named name) re y has (ap (λ n. bytes_eq n name) named_so ∙ name_itself name))) in
            by_winner (winner re name) refl (ap (λ n. is_that y (winner re n)) (sym named_so) ∙ is)
          where
            by_winner : (o : Option InputSymbol) → winner re name ≡ o → is_that y (winner re name) ≡ true → ⊥
            by_winner o e that = no_true (sym (ap (is_that y) (ap least no_alone)) ∙ that)

        by_found : (o : Option InputSymbol) → object_winner p name ≡ o → o ≡ None
        by_found None e = refl
        by_found (Some y) e =
            let f = find_has (λ z. not (z.input == 0) && is_named name z) p.winners y e in
            let g = has_filter (is_winner re) re y (subst (λ xs. Has xs y) (names.winners_are ∙ ap (λ xs. filter (is_winner xs) xs) names.entries_are) f.0) in
            absurd (none_named y g.0 g.1 (name_equal (name_of y) name (and_parts (not (y.input == 0)) (is_named name y) f.1).1))

    abbrev refs : List InputSymbol
    refs = named E name

    record Ref (u : InputSymbol) : Type 0 where
      entry_there : Has E u
      of_run_there : OfRun run os cut u
      entry : is_entry u ≡ true
      named_so : name_of u ≡ name

    is_ref : (u : InputSymbol) → Has (named E name) u → Ref u
    is_ref u has =
        let f = has_filter (is_named name) E u has in
        let g = has_filter is_entry M u f.0 in
        record { entry_there = f.0; of_run_there = of_run run os cut u g.0; entry = g.1; named_so = name_equal (name_of u) name f.1 }

    -- each is open
    ref_open : (u : InputSymbol) → Has (named E name) u → is_open p (al u) ≡ true
    ref_open u has =
        let r = is_ref u has in
        ap (λ n. is_entry u && is_none (object_winner p n)) r.named_so ∙ (ap (λ o. is_entry u && is_none o) no_winner ∙ and_from (is_entry u) true r.entry refl)

    abbrev of_object : InputSymbol → Bool
    of_object e = not (e.input == 0) && is_named name e

    objects_named : filter of_object p.entries ≡ map al (named E name)
    objects_named =
        ap (filter of_object) (names.entries_are ∙ re_is)
        ∙ (filter_append of_object (made_from 0 (made Plain)) (map al E)
        ∙ (ap (λ xs. xs ++ filter of_object (map al E)) (filter_nothing of_object (made_from 0 (made Plain)) made_not)
        ∙ (filter_of_map al of_object E ∙ ap (map al) (filter_same (λ u. of_object (al u)) (is_named name) E of_run_not))))
      where
        made_not : (e : InputSymbol) → Has (made_from 0 (made Plain)) e → of_object e ≡ false
        made_not e has =
            ap (λ (n : ℕ). not (n == 0) && is_named name e)
            (all_has (λ (x : InputSymbol). x.input ≡ 0) (made_from 0 (made Plain)) (all_made (λ (x : InputSymbol). x.input ≡ 0) (λ place m. refl) 0 (made Plain)) e has)

        of_run_not : (u : InputSymbol) → Has E u → of_object (al u) ≡ is_named name u
        of_run_not u has =
            let f = has_filter is_entry M u has in
            let i = of_run run os cut u f.0 in
            ap (λ (b : Bool). not b && is_named name u) (ne_eqb (u.input - run.first) 0 (λ e. omega (arith, i.from, e)))

    -- The first of them stands, and no other.
    module _ (u : InputSymbol) (rest : List InputSymbol) (are : named E name ≡ u ∷ rest) where
      first_has : Has (named E name) u
      first_has = subst (λ xs. Has xs u) (sym are) (inl refl)

      least_is : least_in_object p name ≡ Some (al u)
      least_is = find_first of_object p.entries (al u) (map al rest) (objects_named ∙ ap (map al) are)

      referenced : is_referenced p name ≡ true
      referenced =
          ap (λ xs. not (length xs == 0) || list_any (names_it p name) (refs_of p.parts)) (refs_alone ∙ ap (map al) are)
          ∙ ap (λ (b : Bool). not b || list_any (names_it p name) (refs_of p.parts)) (ne_eqb (length (al u ∷ map al rest)) 0 (λ e. omega (arith, e)))

      kept_as : (v : InputSymbol) → Has (named E name) v → j.keep v ≡ same_entry (al v) (al u)
      kept_as v has =
          let r = is_ref v has in
          (run_inside run os p cut stand v r.of_run_there.from r.of_run_there.to).0
          ∙ (ap (λ (b : Bool). if b then stands_for_name p (al v) (object_winner p (name_of v)) else ((al v).defines && not (is_kind Section (al v)))) r.entry
          ∙ (ap (λ n. stands_for_name p (al v) (object_winner p n)) r.named_so
          ∙ (ap (stands_for_name p (al v)) no_winner
          ∙ (ap (λ n. is_that (al v) (least_in_object p n) && is_referenced p n) r.named_so
          ∙ (ap (λ o. is_that (al v) o && is_referenced p name) least_is
          ∙ (ap (λ b. same_entry (al v) (al u) && b) referenced ∙ and_true (same_entry (al v) (al u))))))))
        where
          and_true : (b : Bool) → (b && true) ≡ b
          and_true true = refl
          and_true false = refl

      refs_apart : Apart same_entry (map al (u ∷ rest))
      refs_apart =
          subst (Apart same_entry) (ap (filter (is_named name)) (ap (filter is_entry) (stand.program ∙ all_alone run os cut stand.found) ∙ filter_of_map al is_entry M) ∙ (filter_of_map al (is_named name) E ∙ ap (map al) are))
          (apart_filter same_entry (is_named name) (filter is_entry (all_symbols p)) (apart_filter same_entry is_entry (all_symbols p) stand.apart))

      only : filter j.keep (named E name) ≡ u ∷ []
      only =
          filter_same j.keep (λ v. same_entry (al v) (al u)) (named E name) kept_as
          ∙ (ap (filter (λ v. same_entry (al v) (al u))) are
          ∙ (ap (λ (b : Bool). cond b (u ∷ filter (λ v. same_entry (al v) (al u)) rest) (filter (λ v. same_entry (al v) (al u)) rest)) (entry_itself (al u))
          ∙ ap (λ xs. u ∷ xs) (filter_nothing (λ v. same_entry (al v) (al u)) rest other)))
        where
          to_false : (b : Bool) → (b ≡ true → ⊥) → b ≡ false
          to_false true h = absurd (h refl)
          to_false false h = refl

          other : (v : InputSymbol) → Has rest v → same_entry (al v) (al u) ≡ false
          other v has = entries_turned (al v) (al u) ∙ to_false (same_entry (al u) (al v)) (refs_apart.0 (al v) (map_has al rest v has))

      moved_is : j.move u ≡ js (al u)
      moved_is = let r = is_ref u first_has in (run_inside run os p cut stand u r.of_run_there.from r.of_run_there.to).1

      refs_named : name_references p (name_of u) ≡ map al (named E name)
      refs_named = ap (name_references p) (is_ref u first_has).named_so ∙ refs_alone

      symbol_is : (js (al u)).symbol ≡ open_symbol p (al u)
      symbol_is = ap (λ (b : Bool). if b then open_symbol p (al u) else record u.symbol { index = defined_index p (al u) u.symbol.kind }) (ref_open u first_has)

      weak_is : is_weak (j.move u).symbol ≡ list_all (λ r. is_weak r.symbol) (named E name)
      weak_is =
          ap (λ (x : InputSymbol). is_weak x.symbol) moved_is
          ∙ (ap is_weak symbol_is
          ∙ (open_weak u.symbol.flags (list_all (λ r. is_weak r.symbol) (name_references p (name_of u))) (list_any (λ r. is_explicit r.symbol) (name_references p (name_of u)))
          ∙ (ap (list_all (λ r. is_weak r.symbol)) refs_named ∙ all_of_map al (λ r. is_weak r.symbol) (named E name))))

      explicit_is : is_explicit (j.move u).symbol ≡ list_any (λ r. is_explicit r.symbol) (named E name)
      explicit_is =
          ap (λ (x : InputSymbol). is_explicit x.symbol) moved_is
          ∙ (ap is_explicit symbol_is
          ∙ (open_explicit u.symbol.flags (list_all (λ r. is_weak r.symbol) (name_references p (name_of u))) (list_any (λ r. is_explicit r.symbol) (name_references p (name_of u)))
          ∙ (ap (list_any (λ r. is_explicit r.symbol)) refs_named ∙ any_of_map al (λ r. is_explicit r.symbol) (named E name))))

      -- ---- imports

      standing_there : Has (standing p) (al u)
      standing_there =
          let r = is_ref u first_has in
          filter_has (stands p) (all_symbols p) (al u) (subst (λ xs. Has xs (al u)) (sym (stand.program ∙ all_alone run os cut stand.found)) (map_has al M u r.of_run_there.there))
          (sym (run_inside run os p cut stand u r.of_run_there.from r.of_run_there.to).0 ∙ (kept_as u first_has ∙ entry_itself (al u)))

      abbrev either : Option ImportKey
      either = first_some (least_import (explicit_of (named E name)) ∷ least_import (named E name) ∷ [])

      same_kind : (v : InputSymbol) → Has (named E name) v → kind_code v.symbol.kind ≡ kind_code u.symbol.kind
      same_kind v has =
          let r = is_ref v has in
          let s = is_ref u first_has in
          (one_type es open_.no_clash v u (run_entry v r.entry_there) (run_entry u s.entry_there) (r.named_so ∙ sym s.named_so)).0

      data_none : is_kind Datum u ≡ true → (v : InputSymbol) → Has (named E name) v → v.import ≡ None
      data_none datum v has =
          all_has (λ (e : InputSymbol). is_kind Datum e ≡ true → e.import ≡ None) M open_.no_import v (is_ref v has).of_run_there.there (ap (λ n. n == kind_code Datum) (same_kind v has) ∙ datum)

      explicit_within : (v : InputSymbol) → Has (explicit_of (named E name)) v → Has (named E name) v
      explicit_within v has = (has_filter (λ r. is_explicit r.symbol) (named E name) v has).0

      either_none : is_kind Datum u ≡ true → either ≡ None
      either_none datum =
          ap (λ o. first_some (o ∷ least_import (named E name) ∷ [])) (no_imports (explicit_of (named E name)) (λ v has. data_none datum v (explicit_within v has)))
          ∙ ap (λ o. first_some (o ∷ [])) (no_imports (named E name) (data_none datum))

      either_is : open_import p (al u) ≡ unwrap_or either (record { module_name = codes "env"; field = name_of u; type = u.type })
      either_is =
          ap (λ xs. unwrap_or (first_some (least_import (explicit_of xs) ∷ least_import xs ∷ [])) (record { module_name = codes "env"; field = name_of u; type = u.type })) refs_named
          ∙ (ap (λ o. unwrap_or (first_some (o ∷ least_import (map al (named E name)) ∷ [])) (record { module_name = codes "env"; field = name_of u; type = u.type }))
          (ap least_import (filter_of_map al (λ r. is_explicit r.symbol) (named E name)) ∙ imports_of_map al (λ x. refl) (explicit_of (named E name)))
          ∙ ap (λ o. unwrap_or (first_some (least_import (explicit_of (named E name)) ∷ o ∷ [])) (record { module_name = codes "env"; field = name_of u; type = u.type })) (imports_of_map al (λ x. refl) (named E name)))

      grounded_some : is_kind Datum u ≡ false → is_some (least_import (named E name)) ≡ true
      grounded_some datum =
          let told : (is_kind Datum (al u) || is_some (least_import (name_references p (name_of u)))) ≡ true =
          all_true (λ e. is_kind Datum e || is_some (least_import (name_references p (name_of e)))) (open_symbols p) open_.grounded (al u)
          (filter_has (is_open p) (standing p) (al u) standing_there (ref_open u first_has)) in
          ap is_some (sym (ap least_import refs_named ∙ imports_of_map al (λ x. refl) (named E name)))
          ∙ (sym (ap (λ (b : Bool). b || is_some (least_import (name_references p (name_of u)))) datum) ∙ told)

      import_is : (j.move u).import ≡ either
      import_is =
          ap (λ (x : InputSymbol). x.import) moved_is
          ∙ (all_has (λ (x : InputSymbol). is_open p x ≡ true → (js x).import ≡ (if is_kind Datum x then None else Some (open_import p x))) (standing p) read.import (al u) standing_there (ref_open u first_has)
          ∙ by_datum (is_kind Datum u) refl)
        where
          some_either : (a b : Option ImportKey) (k : ImportKey) → is_some b ≡ true → Some (unwrap_or (first_some (a ∷ b ∷ [])) k) ≡ first_some (a ∷ b ∷ [])
          some_either (Some x) b k s = refl
          some_either None (Some x) k s = refl
          some_either None None k s = absurd (no_true s)

          by_datum : (b : Bool) → is_kind Datum u ≡ b → (if b then None else Some (open_import p (al u))) ≡ first_some (least_import (explicit_of (named E name)) ∷ least_import (named E name) ∷ [])
          by_datum true datum = sym (either_none datum)
          by_datum false datum =
              ap Some either_is
              ∙ some_either (least_import (explicit_of (named E name))) (least_import (named E name)) (record { module_name = codes "env"; field = name_of u; type = u.type }) (grounded_some datum)

      -- an explicit reference stands on an import
      explicit_some : is_kind Datum u ≡ false → (v : InputSymbol) → Has (named E name) v → is_some v.import ≡ true
      explicit_some datum v has =
          let r = is_ref v has in
          all_has (λ (e : InputSymbol). is_entry e ≡ true → is_undefined e.symbol ≡ true → is_kind Datum e ≡ false → is_some e.import ≡ true) M open_.on_import v r.of_run_there.there r.entry
          (by_undefined (is_undefined v.symbol) refl) (ap (λ n. n == kind_code Datum) (same_kind v has) ∙ datum)
        where
          by_undefined : (b : Bool) → is_undefined v.symbol ≡ b → b ≡ true
          by_undefined true e = refl
          by_undefined false e =
              let r = is_ref v has in
              let d = all_has (λ (x : InputSymbol). is_entry x ≡ true → (al x).defines ≡ false → is_undefined x.symbol ≡ false
              → (y : InputSymbol) × Has p.entries y × (name_of y ≡ name_of x) × (y.defines ≡ true)) M open_.dropped v r.of_run_there.there r.entry (none_alone v r.entry_there r.named_so) e in
              absurd (none_here (definitions re name) d.0 (definition re d.0 name (subst (λ xs. Has xs d.0) names.entries_are d.1) (d.2 ∙ r.named_so) d.3) no_alone)

      grounded_is : list_any (λ r. is_explicit r.symbol) (named E name) ≡ true → least_import (explicit_of (named E name)) ≡ None → least_import (named E name) ≡ None
      grounded_is any none_explicit = by_datum (is_kind Datum u) refl
        where
          by_datum : (b : Bool) → is_kind Datum u ≡ b → least_import (named E name) ≡ None
          by_datum true datum = no_imports (named E name) (data_none datum)
          by_datum false datum =
              let r = has_any (λ v. is_explicit v.symbol) (named E name) any in
              absurd (some_import (explicit_of (named E name)) r.0 (filter_has (λ v. is_explicit v.symbol) (named E name) r.0 r.1 r.2) (explicit_some datum r.0 r.1) none_explicit)

      stands_for : StandsFor j (named E name) u
      stands_for = record { others = rest; first = are; only = only; weak = weak_is; explicit = explicit_is; import = import_is; grounded = grounded_is }

    -- All of them are stood for.
    pub stood : AreStoodFor j (named E name)
    stood = by_refs (named E name) refl
      where
        by_refs : (xs : List InputSymbol) → named E name ≡ xs → AreStoodFor j (named E name)
        by_refs [] none_there = inl none_there
        by_refs (u ∷ rest) are = inr (u, stands_for u rest are)

    -- Each is WEAK where the one is that stands for them.
    pub weak_alike : (u : InputSymbol) → Has (named E name) u → j.keep u ≡ true → is_weak (j.move u).symbol ≡ is_weak u.symbol
    weak_alike u has kept = by_refs (named E name) refl
      where
        alike_all : (xs : List InputSymbol) → Has xs u → (list_all (λ r. is_weak r.symbol) xs || not (list_any (λ r. is_weak r.symbol) xs)) ≡ true → list_all (λ r. is_weak r.symbol) xs ≡ is_weak u.symbol
        alike_all xs there told = choose (list_all (λ r. is_weak r.symbol) xs) refl told
          where
            choose : (b : Bool) → list_all (λ r. is_weak r.symbol) xs ≡ b → (b || not (list_any (λ r. is_weak r.symbol) xs)) ≡ true → b ≡ is_weak u.symbol
            choose true all t = sym (all_true (λ r. is_weak r.symbol) xs all u there)
            choose false all t = none_weak (is_weak u.symbol) refl
              where
                none_weak : (w : Bool) → is_weak u.symbol ≡ w → false ≡ w
                none_weak false is = refl
                none_weak true is = absurd (no_true (sym (ap not (any_has (λ r. is_weak r.symbol) xs u there is)) ∙ t))

        by_refs : (xs : List InputSymbol) → named E name ≡ xs → is_weak (j.move u).symbol ≡ is_weak u.symbol
        by_refs [] none_there = absurd (subst (λ ys. Has ys u) none_there has)
        by_refs (v ∷ rest) are =
            let s = stands_for v rest are in
            let among : Has (v ∷ []) u = subst (λ ys. Has ys u) s.only (filter_has j.keep (named E name) u has kept) in
            let it : v ≡ u = ⊎_elim (λ (e : v ≡ u). e) (λ none_else. absurd none_else) among in
            let told : are_alike (name_references p (name_of v)) ≡ true =
            all_true (λ e. are_alike (name_references p (name_of e))) (open_symbols p) open_.uniform (al v)
            (filter_has (is_open p) (standing p) (al v) (standing_there v rest are) (ref_open v (first_has v rest are))) in
            ap (λ (x : InputSymbol). is_weak (j.move x).symbol) (sym it)
            ∙ (s.weak ∙ alike_all (named E name) has
            (sym (ap (λ (b : Bool). b || not (list_any (λ r. is_weak r.symbol) (named E name))) (all_of_map al (λ r. is_weak r.symbol) (named E name)))
            ∙ (sym (ap (λ (b : Bool). list_all (λ r. is_weak r.symbol) (map al (named E name)) || not b) (any_of_map al (λ r. is_weak r.symbol) (named E name)))
            ∙ (sym (ap are_alike (refs_named v rest are)) ∙ told))))

    -- So all of them are, or none.
    pub weak_all : (u : InputSymbol) → Has (named E name) u → list_all (λ r. is_weak r.symbol) (named E name) ≡ is_weak u.symbol
    weak_all u has = by_refs (named E name) refl
      where
        by_refs : (xs : List InputSymbol) → named E name ≡ xs → list_all (λ r. is_weak r.symbol) (named E name) ≡ is_weak u.symbol
        by_refs [] none_there = absurd (subst (λ ys. Has ys u) none_there has)
        by_refs (v ∷ rest) are =
            let told : are_alike (name_references p (name_of v)) ≡ true =
            all_true (λ e. are_alike (name_references p (name_of e))) (open_symbols p) open_.uniform (al v)
            (filter_has (is_open p) (standing p) (al v) (standing_there v rest are) (ref_open v (first_has v rest are))) in
            weak_told (named E name) u has
            (sym (ap (λ (b : Bool). b || not (list_any (λ r. is_weak r.symbol) (named E name))) (all_of_map al (λ r. is_weak r.symbol) (named E name)))
            ∙ (sym (ap (λ (b : Bool). list_all (λ r. is_weak r.symbol) (map al (named E name)) || not b) (any_of_map al (λ r. is_weak r.symbol) (named E name)))
            ∙ (sym (ap are_alike (refs_named v rest are)) ∙ told)))
