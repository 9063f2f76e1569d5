-- What stands for a symbol of the run comes before it, so imports and null functions keep their order.
use Rattle.std.proofs.Common.{◌≡◌, ℕ, ◌+◌, ◌<◌, ◌≤◌, Bool, true, false, ◌&&◌, cond, List, [], ◌∷◌, ◌++◌, map, filter, append_assoc, append-nil, inl, inr, ⊎_elim, refl, sym, ap, subst, ◌∙◌, arith}
use Rattle.std.specs.Prelude.{Option, Some, None, nat_lt, nat_le, filter_map, flat_map, bytes_eq, All}
use Rattle.std.specs.List.{list_any, cons_option}
use Rattle.std.proofs.lemmas.Bool.{and_parts, and_from, eq-eqb, lt-ltb, le-ltb}
use Rattle.std.proofs.lemmas.Bool.Decides.{nat_tests}
use Rattle.std.proofs.lemmas.List.Concat.{flat_map-append}
use Rattle.std.proofs.lemmas.List.Elements.{All-head, All-tail, filter-append}
use Rattle.list_places.specs.Has.{Has}
use Rattle.list_places.proofs.Lists.{has_filter, filter_has, any_has, has_any, has_right}
use Rattle.name_rules.specs.object_file.wl_base.Choice.{distinct, given}
use Rattle.made_symbols.specs.declared.mode.Mode.TheVariants.{Plain}
use Rattle.made_symbols.specs.Made.{made}
use Rattle.name_rules.specs.object_file.linking_section.Flags.{kind_code}
use Rattle.name_rules.specs.object_file.declared.object.Object.{Object}
use Rattle.name_rules.specs.Entries.{InputSymbol, name_of, is_entry, is_kind, is_named, named, entries, symbols_of, entry_in, made_entry, made_from}
use Rattle.name_rules.specs.Meanings.{winner}
use Rattle.link_rules.specs.Program.{Program}
use Rattle.partial_laws.specs.Joining.{Joining, joined, Kept, IsJoining, stands_for, ComeFirst}
use Rattle.partial_laws.specs.Opens.{StandsFor, AreStoodFor}
use Rattle.partial_laws.specs.Inputs.{Run, Objects, whole_objects, AreCut}
use Rattle.partial_laws.specs.Standing.{is_of_run, joining}
use Rattle.partial_laws.specs.Joined.{linked_symbols, SymbolsStand, NamesStand, SymbolsRead, OpensStand}
use Rattle.partial_laws.proofs.Lists.{filter_twice, filter_kept}
use Rattle.partial_laws.proofs.Same.{name_itself, name_equal}
use Rattle.partial_laws.proofs.Thinned.{Led, Shown, thinned}
use Rattle.partial_laws.proofs.Cases.{one_type}
use Rattle.partial_laws.proofs.Joins.{all_flat, all_made, not_after, not_before}
use Rattle.partial_laws.proofs.Regions.{OfRun, of_run, region, run_linked, entry_linked, linked_entry}
use Rattle.partial_laws.proofs.Opened.{stood}

no_true : false ≡ true → ⊥
no_true e = absurd cc

filter_none : {A : Type 0} (t : A → Bool) (xs : List A) → All (λ x. t x ≡ false) xs → filter t xs ≡ []
filter_none t [] all = refl
filter_none t (x ∷ xs) all = rw (All-head (λ y. t y ≡ false) x xs all, filter_none t xs (All-tail (λ y. t y ≡ false) x xs all)) refl

filter_where_all : {A : Type 0} (t u : A → Bool) (xs : List A) → All (λ x. t x ≡ u x) xs → filter t xs ≡ filter u xs
filter_where_all t u [] all = refl
filter_where_all t u (x ∷ xs) all = rw (All-head (λ y. t y ≡ u y) x xs all, filter_where_all t u xs (All-tail (λ y. t y ≡ u y) x xs all)) refl

module _ (run : Run) (os : Objects) (p : Program) (cut : AreCut run os) (stand : SymbolsStand run os p) (names : NamesStand run os p) (read : SymbolsRead run os p) (open_ : OpensStand run os p) where
  abbrev W : List Object
  W = whole_objects os

  abbrev M : List InputSymbol
  M = flat_map (symbols_of W) os.middle

  abbrev es : List InputSymbol
  es = entries Plain W

  abbrev j : Joining
  j = joining run os p

  -- an entry of the run of this name
  abbrev test : List ℕ → InputSymbol → Bool
  test n e = is_of_run run os e && (is_entry e && is_named n e)

  not_of_run : (n : List ℕ) (e : InputSymbol) → is_of_run run os e ≡ false → test n e ≡ false
  not_of_run n e out = ap (λ (b : Bool). b && (is_entry e && is_named n e)) out

  before_not : (e : InputSymbol) → e.input ≤ run.first → is_of_run run os e ≡ false
  before_not e le = ap (λ (b : Bool). b && nat_le e.input (run.first + run.many)) (le-ltb run.first e.input le)

  behind_not : (e : InputSymbol) → run.first + run.many < e.input → is_of_run run os e ≡ false
  behind_not e lt = let no : nat_le e.input (run.first + run.many) ≡ false = grind (arith, nat_tests, lt) in ap (λ (b : Bool). nat_lt run.first e.input && b) no ∙ and_false (nat_lt run.first e.input)
    where
      and_false : (b : Bool) → (b && false) ≡ false
      and_false true = refl
      and_false false = refl

  inside_is : (e : InputSymbol) → run.first < e.input → e.input ≤ run.first + run.many → is_of_run run os e ≡ true
  inside_is e gt le =
      let high : nat_le e.input (run.first + run.many) ≡ true = grind (arith, nat_tests, le) in
      ap (λ (b : Bool). b && nat_le e.input (run.first + run.many)) (lt-ltb run.first e.input gt) ∙ high

  -- Of all symbols the entries of the run of a name.
  run_of_all : (n : List ℕ) → filter (test n) (flat_map (symbols_of W) W) ≡ named (filter is_entry M) n
  run_of_all n =
      ap (filter (test n)) (flat_map-append (symbols_of W) os.before (os.middle ++ os.behind) ∙ ap (λ xs. flat_map (symbols_of W) os.before ++ xs) (flat_map-append (symbols_of W) os.middle os.behind))
      ∙ (filter-append (test n) (flat_map (symbols_of W) os.before) (M ++ flat_map (symbols_of W) os.behind)
      ∙ (ap (λ xs. xs ++ filter (test n) (M ++ flat_map (symbols_of W) os.behind)) (filter_none (test n) (flat_map (symbols_of W) os.before)
      (all_flat W (λ e. test n e ≡ false) (λ (o : Object). o.input ≤ run.first) (λ o le place s. not_of_run n (entry_in W o place s) (before_not (entry_in W o place s) le)) os.before cut.before))
      ∙ (filter-append (test n) M (flat_map (symbols_of W) os.behind)
      ∙ (ap (λ xs. filter (test n) M ++ xs) (filter_none (test n) (flat_map (symbols_of W) os.behind)
      (all_flat W (λ e. test n e ≡ false) (λ (o : Object). run.first + run.many < o.input) (λ o lt place s. not_of_run n (entry_in W o place s) (behind_not (entry_in W o place s) lt)) os.behind cut.behind))
      ∙ (append-nil (filter (test n) M)
      ∙ (filter_same_has (test n) (λ e. is_entry e && is_named n e) M (λ e has. let i = of_run run os cut e has in ap (λ (b : Bool). b && (is_entry e && is_named n e)) (inside_is e i.from i.to))
      ∙ sym (filter_twice (is_named n) is_entry M)))))))
    where
      filter_same_has : (t u : InputSymbol → Bool) (xs : List InputSymbol) → ((x : InputSymbol) → Has xs x → t x ≡ u x) → filter t xs ≡ filter u xs
      filter_same_has t u [] same = refl
      filter_same_has t u (x ∷ xs) same = rw (same x (inl refl), filter_same_has t u xs (λ y has. same y (inr has))) refl

  run_of_entries : (n : List ℕ) → filter (test n) (entries Plain W) ≡ named (filter is_entry M) n
  unfolding entries
  run_of_entries n =
      filter-append (test n) (made_from 0 (made Plain)) (filter is_entry (flat_map (symbols_of W) W))
      ∙ (ap (λ xs. xs ++ filter (test n) (filter is_entry (flat_map (symbols_of W) W))) (filter_none (test n) (made_from 0 (made Plain))
      (all_made (λ e. test n e ≡ false) (λ place m. not_of_run n (made_entry place m) (before_not (made_entry place m) (omega arith))) 0 (made Plain)))
      ∙ (filter_twice (test n) is_entry (flat_map (symbols_of W) W)
      ∙ (drop (flat_map (symbols_of W) W) ∙ run_of_all n)))
    where
      twice : (r e m : Bool) → (e && (r && (e && m))) ≡ (r && (e && m))
      twice true true m = refl
      twice true false m = refl
      twice false true m = refl
      twice false false m = refl

      drop : (xs : List InputSymbol) → filter (λ e. is_entry e && test n e) xs ≡ filter (test n) xs
      drop [] = refl
      drop (x ∷ xs) = rw (twice (is_of_run run os x) (is_entry x) (is_named n x), drop xs) refl

  -- ---- what stands for a symbol comes before it

  module _ (all : List InputSymbol) (of_all : (n : List ℕ) → filter (test n) all ≡ named (filter is_entry M) n) (known : (e : InputSymbol) → Has all e → Has (linked_symbols W) e) where
    head_same : {A : Type 0} (a b : A) (as' bs : List A) → a ∷ as' ≡ b ∷ bs → a ≡ b
    head_same a b as' bs e = cc

    shown_before : (seen xs : List InputSymbol) (x : InputSymbol) → seen ++ x ∷ xs ≡ all → j.keep x ≡ false → is_entry x ≡ true → winner es (name_of x) ≡ None → list_any (stands_for j x) seen ≡ true
    shown_before seen xs x e left entry none =
        ⊎_elim (λ le. absurd (no_true (sym left ∙ (not_after run os p cut stand x le).0)))
        (λ rest. ⊎_elim (λ (i : OfRun run os cut x). by_stood i (stood run os p cut stand names read open_ (name_of x) none)) (λ lt. absurd (no_true (sym left ∙ (not_before run os p cut stand x lt).0))) rest)
        (region run os cut x (known x (subst (λ ys. Has ys x) e (has_right seen (x ∷ xs) x (inl refl)))))
      where
        is_test : OfRun run os cut x → test (name_of x) x ≡ true
        is_test i = and_from (is_of_run run os x) (is_entry x && is_named (name_of x) x) (inside_is x i.from i.to) (and_from (is_entry x) (is_named (name_of x) x) entry (name_itself (name_of x)))

        is_ref : OfRun run os cut x → Has (named (filter is_entry M) (name_of x)) x
        is_ref i = filter_has (is_named (name_of x)) (filter is_entry M) x (filter_has is_entry M x i.there entry) (name_itself (name_of x))

        kept_first : (u : InputSymbol) → StandsFor j (named (filter is_entry M) (name_of x)) u → j.keep u ≡ true
        kept_first u s = (has_filter j.keep (named (filter is_entry M) (name_of x)) u (subst (λ ys. Has ys u) (sym s.only) (inl refl))).1

        stands_so : OfRun run os cut x → (u : InputSymbol) → StandsFor j (named (filter is_entry M) (name_of x)) u → stands_for j x u ≡ true
        stands_so i u s =
            let f = has_filter (is_named (name_of x)) (filter is_entry M) u (subst (λ ys. Has ys u) (sym s.first) (inl refl)) in
            let g = has_filter is_entry M u f.0 in
            let kinds : kind_code u.symbol.kind ≡ kind_code x.symbol.kind =
            (one_type es open_.no_clash u x (linked_entry W u (run_linked run os cut u g.0) g.1) (linked_entry W x (run_linked run os cut x i.there) entry) (name_equal (name_of u) (name_of x) f.1)).0 in
            and_from ((j.keep u && is_entry u) && is_named (name_of x) u) (is_kind x.symbol.kind u)
            (and_from (j.keep u && is_entry u) (is_named (name_of x) u) (and_from (j.keep u) (is_entry u) (kept_first u s) g.1) f.1)
            (eq-eqb (kind_code u.symbol.kind) (kind_code x.symbol.kind) kinds)

        by_seen : OfRun run os cut x → (u : InputSymbol) (others : List InputSymbol) → StandsFor j (named (filter is_entry M) (name_of x)) u → (ys : List InputSymbol) → filter (test (name_of x)) seen ≡ ys
            → ys ++ x ∷ filter (test (name_of x)) xs ≡ u ∷ others → list_any (stands_for j x) seen ≡ true
        by_seen i u others s [] f e =
            absurd (no_true (sym left ∙ (ap j.keep (head_same x u (filter (test (name_of x)) xs) others e) ∙ kept_first u s)))
        by_seen i u others s (y ∷ ys) f e =
            let it : y ≡ u = head_same y u (ys ++ x ∷ filter (test (name_of x)) xs) others e in
            let has : Has seen y = (has_filter (test (name_of x)) seen y (subst (λ zs. Has zs y) (sym f) (inl refl))).0 in
            any_has (stands_for j x) seen y has (ap (stands_for j x) it ∙ stands_so i u s)

        by_stood : OfRun run os cut x → AreStoodFor j (named (filter is_entry M) (name_of x)) → list_any (stands_for j x) seen ≡ true
        by_stood i (inl empty) = absurd (subst (λ ys. Has ys x) empty (is_ref i))
        by_stood i (inr s) =
            let k : StandsFor j (named (filter is_entry M) (name_of x)) s.0 = s.1 in
            by_seen i s.0 k.others k (filter (test (name_of x)) seen) refl
            (ap (λ (b : Bool). filter (test (name_of x)) seen ++ cond b (x ∷ filter (test (name_of x)) xs) (filter (test (name_of x)) xs)) (sym (is_test i))
            ∙ (sym (filter-append (test (name_of x)) seen (x ∷ xs)) ∙ (ap (filter (test (name_of x))) e ∙ (of_all (name_of x) ∙ k.first))))

    pub come_first_from : (seen xs : List InputSymbol) → seen ++ xs ≡ all → ComeFirst j es seen xs
    come_first_from seen [] e = tt
    come_first_from seen (x ∷ xs) e =
        (λ left entry none. shown_before seen xs x e left entry none, come_first_from (seen ++ x ∷ []) xs (append_assoc seen (x ∷ []) xs ∙ e))

  -- Of all symbols, and of all entries.
  pub symbols_first : ComeFirst j es [] (flat_map (symbols_of W) W)
  symbols_first = come_first_from (flat_map (symbols_of W) W) run_of_all (λ e has. has_right (made_from 0 (made Plain)) (flat_map (symbols_of W) W) e has) [] (flat_map (symbols_of W) W) refl

  pub entries_first : ComeFirst j es [] (entries Plain W)
  entries_first = come_first_from (entries Plain W) run_of_entries (λ e has. entry_linked W e has) [] (entries Plain W) refl

-- ---- names of null functions

module _ (j : Joining) (S : InputSymbol → Type 0) (es : List InputSymbol) (is : IsJoining j S es) (all : All S es) (c : List ℕ → Bool) (open_ : (n : List ℕ) → c n ≡ true → winner es n ≡ None) where
  abbrev f : InputSymbol → Option (List ℕ)
  f e = given (c (name_of e)) (name_of e)

  names_given : (xs : List InputSymbol) → map name_of (filter (λ e. c (name_of e)) xs) ≡ filter_map f xs
  names_given [] = refl
  names_given (x ∷ xs) = by_test (c (name_of x)) (names_given xs)
    where
      by_test : (b : Bool) → map name_of (filter (λ e. c (name_of e)) xs) ≡ filter_map f xs
          → map name_of (cond b (x ∷ filter (λ e. c (name_of e)) xs) (filter (λ e. c (name_of e)) xs)) ≡ cons_option (given b (name_of x)) (filter_map f xs)
      by_test true rest = ap (λ ns. name_of x ∷ ns) rest
      by_test false rest = rest

  given_is : (n k : List ℕ) (b : Bool) → given b n ≡ Some k → (b ≡ true) × (n ≡ k)
  given_is n k true e = (refl, some_same n k e)
    where
      some_same : (a b : List ℕ) → Some a ≡ Some b → a ≡ b
      some_same a b e = cc
  given_is n k false e = absurd cc

  led : (seen xs : List InputSymbol) → All (λ (e : InputSymbol). is_entry e ≡ true) xs → ComeFirst j es seen xs → Led j.keep f bytes_eq name_itself seen xs
  led seen [] entries_all first = tt
  led seen (x ∷ xs) entries_all first = (shown, led (seen ++ x ∷ []) xs (All-tail (λ (e : InputSymbol). is_entry e ≡ true) x xs entries_all) first.1)
    where
      shown : j.keep x ≡ false → (k : List ℕ) → f x ≡ Some k → Shown j.keep f bytes_eq name_itself seen k
      shown left k gives =
          let g = given_is (name_of x) k (c (name_of x)) gives in
          let s = has_any (stands_for j x) seen (first.0 left (All-head (λ (e : InputSymbol). is_entry e ≡ true) x xs entries_all) (open_ (name_of x) g.0)) in
          let a = and_parts ((j.keep s.0 && is_entry s.0) && is_named (name_of x) s.0) (is_kind x.symbol.kind s.0) s.2 in
          let b = and_parts (j.keep s.0 && is_entry s.0) (is_named (name_of x) s.0) a.0 in
          record {
            item = s.0;
            there = s.1;
            kept = (and_parts (j.keep s.0) (is_entry s.0) b.0).0;
            gives = ap (λ n. given (c n) n) (name_equal (name_of s.0) (name_of x) b.1) ∙ gives;
          }

  moved_names : (xs : List InputSymbol) → All (Kept j S) xs → filter_map f (map j.move xs) ≡ filter_map f xs
  moved_names [] kept = refl
  moved_names (x ∷ xs) kept =
      ap (λ n. cons_option (given (c n) n) (filter_map f (map j.move xs))) (is.name x (All-head (Kept j S) x xs kept))
      ∙ ap (cons_option (f x)) (moved_names xs (All-tail (Kept j S) x xs kept))

  -- The names of entries that are called and null, each once, by their first entries.
  pub stubs_joined : ComeFirst j es [] es → distinct bytes_eq (map name_of (filter (λ e. c (name_of e)) (joined j es))) ≡ distinct bytes_eq (map name_of (filter (λ e. c (name_of e)) es))
  stubs_joined first =
      ap (distinct bytes_eq) (names_given (joined j es) ∙ moved_names (filter j.keep es) (filter_kept S (Kept j S) j.keep (λ x s k. record { symbol = s; kept = k }) es all))
      ∙ (sym (thinned j.keep f bytes_eq name_itself es (led [] es is.entries first)) ∙ ap (distinct bytes_eq) (sym (names_given es)))
