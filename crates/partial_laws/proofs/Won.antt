-- The winner of a name stands where one object stands for a run.
use Rattle.std.proofs.Common.{◌≡◌, ℕ, ◌+◌, ◌-◌, ◌*◌, ◌^◌, ◌<◌, ◌≤◌, ◌==◌, Bool, true, false, not, ◌&&◌, List, [], ◌∷◌, filter, inl, inr, refl, sym, ap, subst, ◌∙◌, arith}
use Rattle.std.specs.Prelude.{◌⊎◌, if◌then◌else◌, Option, Some, None, flat_map, bytes_eq, All}
use Rattle.std.proofs.lemmas.List.Elements.{All-cons}
use Rattle.std.proofs.lemmas.Bool.{and_parts, and_from, eq-eqb, ne_eqb}
use Rattle.list_places.specs.Has.{Has}
use Rattle.list_places.proofs.Lists.{has_filter, filter_has, has_map, map_has, find_has, all_has}
use Rattle.made_symbols.specs.declared.mode.Mode.TheVariants.{Plain}
use Rattle.made_symbols.specs.Made.{made}
use Rattle.name_rules.specs.object_file.linking_section.declared.symbol.SymbolKind.TheVariants.{Section}
use Rattle.name_rules.specs.object_file.declared.object.Object.{Object}
use Rattle.name_rules.specs.Entries.{InputSymbol, name_of, is_kind, is_named, named, is_entry, entries, symbols_of, made_from, same_entry}
use Rattle.name_rules.specs.Meanings.{entry_rank, definitions, least, winner}
use Rattle.link_rules.specs.Program.{Program, is_that, is_winner, winners_of}
use Rattle.link_rules.specs.Marks.{all_symbols}
use Rattle.partial_rules.specs.Partial.{is_none, object_winner, stands, stands_for_name, is_open}
use Rattle.partial_laws.specs.Inputs.{Run, Objects, whole_objects, run_objects, AreCut}
use Rattle.partial_laws.specs.Standing.{alone_symbol}
use Rattle.partial_laws.specs.Joined.{SymbolsStand, NamesStand, IsBefore}
use Rattle.partial_laws.proofs.Leasts.{least_among, least_below, least_none}
use Rattle.partial_laws.proofs.Same.{name_itself, name_equal, entry_itself}
use Rattle.partial_laws.proofs.Symbols.{all_alone}
use Rattle.partial_laws.proofs.Lists.{none_asked}
use Rattle.partial_laws.proofs.Joins.{all_made}
use Rattle.partial_laws.proofs.Cases.{find_none}
use Rattle.partial_laws.proofs.Regions.{OfRun, of_run, run_linked, entries_turned, apart_one, linked_entry, made_linked, entry_from}

-- ---- ranks

-- A rank by its parts.
abbrev rank : ℕ → ℕ → ℕ → ℕ
rank c i s = c * 2 ^ 56 + i * 2 ^ 32 + s

-- one of the linker's isn't one of an object's
made_apart : (c d i p q : ℕ) → c < 3 → d < 3 → 0 < i → i < 2 ^ 20 → p < 2 ^ 32 → q < 2 ^ 32 → rank c 0 p ≡ rank d i q → ⊥
made_apart c d i p q hc hd some hi hp hq e = omega (arith, hc, hd, some, hi, hp, hq, e)

-- equal ranks have equal parts
same_parts : (c d i j p q : ℕ) → c < 3 → d < 3 → i < 2 ^ 20 → j < 2 ^ 20 → p < 2 ^ 32 → q < 2 ^ 32 → rank c i p ≡ rank d j q → (i ≡ j) × (p ≡ q)
same_parts c d i j p q hc hd hi hj hp hq e = (omega (arith, hc, hd, hi, hj, hp, hq, e), omega (arith, hc, hd, hi, hj, hp, hq, e))

-- what is of no lower class and stands behind is no less
class_first : (c d i j p q : ℕ) → c < 3 → d < 3 → i < 2 ^ 20 → j < 2 ^ 20 → p < 2 ^ 32 → q < 2 ^ 32 → rank c i p ≤ rank d j q → c ≤ d
class_first c d i j p q hc hd hi hj hp hq le = omega (arith, hc, hd, hi, hj, hp, hq, le)

stands_behind : (c d i j p q : ℕ) → c ≤ d → i < j → p < 2 ^ 32 → rank d j q ≤ rank c i p → ⊥
stands_behind c d i j p q le lt hp below = omega (arith, le, lt, hp, below)

no_true : false ≡ true → ⊥
no_true e = absurd cc

no_some : {A : Type 0} (x : A) → Some x ≡ None → ⊥
no_some x e = absurd cc

none_here : {A : Type 0} (xs : List A) (x : A) → Has xs x → xs ≡ [] → ⊥
none_here [] x has e = has
none_here (y ∷ ys) x has e = absurd cc

least_has : (xs : List InputSymbol) (w : InputSymbol) → least xs ≡ Some w → Has xs w
least_has xs w e = least_among (Has xs) xs w (all_self xs xs (λ x h. h)) e
  where
    all_self : (xs ys : List InputSymbol) → ((x : InputSymbol) → Has ys x → Has xs x) → All (Has xs) ys
    all_self xs [] inside = none_asked (Has xs)
    all_self xs (y ∷ ys) inside = All-cons (Has xs) y ys (inside y (inl refl)) (all_self xs ys (λ x h. inside x (inr h)))

-- A definition of a name among entries.
definition : (es : List InputSymbol) (e : InputSymbol) (name : List ℕ) → Has es e → name_of e ≡ name → e.defines ≡ true → Has (definitions es name) e
definition es e name has named_so defines =
    filter_has (λ x. x.defines) (named es name) e (filter_has (is_named name) es e has (ap (λ n. bytes_eq n name) named_so ∙ name_itself name)) defines

-- The winner is a definition, and no other is less.
pub record Winning (es : List InputSymbol) (name : List ℕ) (w : InputSymbol) : Type 0 where
  pub entry : Has es w
  pub named_so : name_of w ≡ name
  pub defines : w.defines ≡ true
  pub least_one : (d : InputSymbol) → Has es d → name_of d ≡ name → d.defines ≡ true → entry_rank w ≤ entry_rank d

pub winning : (es : List InputSymbol) (name : List ℕ) (w : InputSymbol) → winner es name ≡ Some w → Winning es name w
winning es name w e =
    let f = has_filter (λ x. x.defines) (named es name) w (least_has (definitions es name) w e) in
    let n = has_filter (is_named name) es w f.0 in
    record {
      entry = n.0;
      named_so = name_equal (name_of w) name n.1;
      defines = f.1;
      least_one = λ d has named_so defines. all_has (λ x. entry_rank w ≤ entry_rank x) (definitions es name) (least_below (definitions es name) w e) d (definition es d name has named_so defines);
    }

module _ (run : Run) (os : Objects) (p : Program) (cut : AreCut run os) (stand : SymbolsStand run os p) (names : NamesStand run os p) where
  abbrev W : List Object
  W = whole_objects os

  abbrev M : List InputSymbol
  M = flat_map (symbols_of W) os.middle

  abbrev es : List InputSymbol
  es = entries Plain W

  abbrev re : List InputSymbol
  re = entries Plain (run_objects run os)

  abbrev al : InputSymbol → InputSymbol
  al = alone_symbol run os

  abbrev Low : InputSymbol → Type 0
  Low e = (e.class < 3) × (e.input < 2 ^ 20) × (e.place < 2 ^ 32)

  low : (e : InputSymbol) → Has es e → Low e
  low e has = all_has Low es names.low e has

  run_entry : (e : InputSymbol) → Has M e → is_entry e ≡ true → Has es e
  run_entry e has entry = linked_entry W e (run_linked run os cut e has) entry

  alone_entry : (e : InputSymbol) → Has M e → is_entry e ≡ true → Has re (al e)
  alone_entry e has entry =
      linked_entry (run_objects run os) (al e) (subst (λ xs. Has xs (al e)) (sym (all_alone run os cut stand.found)) (map_has al M e has)) entry

  alone_symbol_has : (e : InputSymbol) → Has M e → Has (all_symbols p) (al e)
  alone_symbol_has e has = subst (λ xs. Has xs (al e)) (sym (stand.program ∙ all_alone run os cut stand.found)) (map_has al M e has)

  -- What wins among all of the whole link, and is of the run, wins in the run alone.
  wins_alone : (name : List ℕ) (w : InputSymbol) → OfRun run os cut w → is_entry w ≡ true → winner es name ≡ Some w → winner re name ≡ Some (al w)
  wins_alone name w inside entry some = by_winner (winner re name) refl
    where
      won : Winning es name w
      won = winning es name w some

      x_defines : (al w).defines ≡ true
      x_defines = all_has (λ (e : InputSymbol). e.defines ≡ true → (al e).defines ≡ true) M names.alone_defines w inside.there (winning es name w some).defines

      w_low : Low w
      w_low = low w (winning es name w some).entry

      -- a definition of the run alone that is no greater is it
      by_made : (v : InputSymbol) → Has (made_from 0 (made Plain)) v → name_of v ≡ name → v.defines ≡ true → entry_rank v ≤ entry_rank (al w) → ⊥
      by_made v is named_so defines le =
          let has : Has es v = made_linked W v is in
          let zero_input : v.input ≡ 0 = all_has (λ (x : InputSymbol). x.input ≡ 0) (made_from 0 (made Plain)) (all_made (λ (x : InputSymbol). x.input ≡ 0) (λ place m. refl) 0 (made Plain)) v is in
          let v_low = low v has in
          let l = low w (winning es name w some).entry in
          let more : entry_rank w ≤ entry_rank v = (winning es name w some).least_one v has named_so defines in
          let under : rank w.class (w.input - run.first) w.place ≤ rank w.class w.input w.place = omega arith in
          let same : rank v.class 0 v.place ≡ rank w.class (w.input - run.first) w.place = omega (arith, more, under, le, zero_input) in
          made_apart v.class w.class (w.input - run.first) v.place w.place v_low.0 l.0 (omega (arith, inside.from)) (omega (arith, l.1)) v_low.2 l.2 same

      by_run : (u : InputSymbol) → Has M u → is_entry u ≡ true → name_of u ≡ name → (al u).defines ≡ true → entry_rank (al u) ≤ entry_rank (al w) → (b : Bool) → u.defines ≡ b → al u ≡ al w
      by_run u is entry_u named_so defines le true d =
          let has : Has es u = run_entry u is entry_u in
          let u_low = low u has in
          let l = low w (winning es name w some).entry in
          let i : OfRun run os cut u = of_run run os cut u is in
          let more : entry_rank w ≤ entry_rank u = (winning es name w some).least_one u has named_so d in
          let same : rank w.class w.input w.place ≡ rank u.class u.input u.place = omega (arith, more, le, i.from, inside.from) in
          let parts = same_parts w.class u.class w.input u.input w.place u.place l.0 u_low.0 l.1 u_low.1 l.2 u_low.2 same in
          apart_one (all_symbols p) stand.apart (al u) (al w) (alone_symbol_has u is) (alone_symbol_has w inside.there)
          (and_from ((u.input - run.first) == (w.input - run.first)) (u.place == w.place) (eq-eqb (u.input - run.first) (w.input - run.first) (ap (λ n. n - run.first) (sym parts.0))) (eq-eqb u.place w.place (sym parts.1)))
      by_run u is entry_u named_so defines le false d =
          let t = all_has (λ (e : InputSymbol). is_entry e ≡ true → e.defines ≡ false → (al e).defines ≡ true → (d : InputSymbol) × IsBefore run os p e d) M names.taken u is entry_u d defines in
          let b : IsBefore run os p u t.0 = t.1 in
          let has : Has es u = run_entry u is entry_u in
          let u_low = low u has in
          let l = low w (winning es name w some).entry in
          let d_low = low t.0 b.entry in
          let more : entry_rank w ≤ entry_rank t.0 = (winning es name w some).least_one t.0 b.entry (b.name ∙ named_so) b.defines in
          let classes : u.class ≤ w.class = class_first u.class w.class (u.input - run.first) (w.input - run.first) u.place w.place u_low.0 l.0 (omega (arith, u_low.1)) (omega (arith, l.1)) u_low.2 l.2 le in
          absurd (stands_behind t.0.class w.class t.0.input w.input t.0.place w.place (omega (arith, classes, b.class)) (omega (arith, b.before, inside.from)) d_low.2 more)

      by_origin : (v : InputSymbol) → Winning re name v → entry_rank v ≤ entry_rank (al w) → (Has (made_from 0 (made Plain)) v ⊎ (Has (flat_map (symbols_of (run_objects run os)) (run_objects run os)) v × (is_entry v ≡ true))) → v ≡ al w
      by_origin v wins le (inl is) = absurd (by_made v is wins.named_so wins.defines le)
      by_origin v wins le (inr is) =
          let m = has_map al M v (subst (λ xs. Has xs v) (all_alone run os cut stand.found) is.0) in
          let u : InputSymbol = m.0 in
          sym m.2 ∙ by_run u m.1 (ap (λ y. is_entry y) m.2 ∙ is.1) (ap (λ y. name_of y) m.2 ∙ wins.named_so) (ap (λ (y : InputSymbol). y.defines) m.2 ∙ wins.defines) (subst (λ y. entry_rank y ≤ entry_rank (al w)) (sym m.2) le) u.defines refl

      by_winner : (o : Option InputSymbol) → winner re name ≡ o → winner re name ≡ Some (al w)
      by_winner None none =
          absurd (none_here (definitions re name) (al w) (definition re (al w) name (alone_entry w inside.there entry) (winning es name w some).named_so x_defines) (least_none (definitions re name) none))
      by_winner (Some v) found =
          let wins = winning re name v found in
          let le : entry_rank v ≤ entry_rank (al w) = wins.least_one (al w) (alone_entry w inside.there entry) (winning es name w some).named_so x_defines in
          found ∙ ap Some (by_origin v wins le (entry_from (run_objects run os) v wins.entry))

  -- So it stands there, and is no open one.
  pub record Standing (w : InputSymbol) : Type 0 where
    pub stands_so : stands p (al w) ≡ true
    pub closed : is_open p (al w) ≡ false

  pub won_stands : (name : List ℕ) (w : InputSymbol) → OfRun run os cut w → is_entry w ≡ true → winner es name ≡ Some w → Standing w
  unfolding winners_of
  won_stands name w inside entry some = by_found (object_winner p name) refl
    where
      n : name_of w ≡ name
      n = (winning es name w some).named_so

      alone_won : winner re name ≡ Some (al w)
      alone_won = wins_alone name w inside entry some

      are : p.winners ≡ filter (is_winner re) re
      are = names.winners_are ∙ ap (λ xs. filter (is_winner xs) xs) names.entries_are

      listed : Has p.winners (al w)
      listed =
          subst (λ xs. Has xs (al w)) (sym (names.winners_are ∙ ap (λ xs. filter (is_winner xs) xs) names.entries_are))
          (filter_has (is_winner re) re (al w) (alone_entry w inside.there entry)
          (ap (λ m. is_that (al w) (winner re m)) (winning es name w some).named_so ∙ (ap (is_that (al w)) (wins_alone name w inside entry some) ∙ entry_itself (al w))))

      passes : (not ((al w).input == 0) && is_named name (al w)) ≡ true
      passes =
          and_from (not ((al w).input == 0)) (is_named name (al w)) (ap not (ne_eqb (w.input - run.first) 0 (λ e. omega (arith, inside.from, e))))
          (ap (λ m. bytes_eq m name) (winning es name w some).named_so ∙ name_itself name)

      by_found : (o : Option InputSymbol) → object_winner p name ≡ o → Standing w
      by_found None none = absurd (no_true (sym (find_none (λ y. not (y.input == 0) && is_named name y) p.winners none (al w) listed) ∙ passes))
      by_found (Some y) found =
          let f = find_has (λ z. not (z.input == 0) && is_named name z) p.winners y found in
          let g = has_filter (is_winner re) re y (subst (λ xs. Has xs y) (names.winners_are ∙ ap (λ xs. filter (is_winner xs) xs) names.entries_are) f.0) in
          let named_so : name_of y ≡ name = name_equal (name_of y) name (and_parts (not (y.input == 0)) (is_named name y) f.1).1 in
          let same : same_entry y (al w) ≡ true = sym (ap (λ m. is_that y (winner re m)) named_so ∙ ap (is_that y) (wins_alone name w inside entry some)) ∙ g.1 in
          record {
            stands_so =
                ap (λ (b : Bool). if b then stands_for_name p (al w) (object_winner p (name_of w)) else ((al w).defines && not (is_kind Section (al w)))) entry
                ∙ (ap (λ m. stands_for_name p (al w) (object_winner p m)) (winning es name w some).named_so
                ∙ (ap (stands_for_name p (al w)) found ∙ (entries_turned (al w) y ∙ same)));
            closed =
                ap (λ m. is_entry w && is_none (object_winner p m)) (winning es name w some).named_so
                ∙ (ap (λ o. is_entry w && is_none o) found ∙ and_false (is_entry w));
          }
        where
          and_false : (b : Bool) → (b && false) ≡ false
          and_false true = refl
          and_false false = refl
