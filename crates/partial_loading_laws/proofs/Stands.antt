-- The object that stands for a run defines what the run defines, and of all else strongly refers to what it refers to.
use Rattle.std.proofs.Common.{◌≡◌, ◌⊎◌, ℕ, ◌+◌, ◌-◌, ◌<◌, ◌==◌, Bool, true, false, not, ◌&&◌, ◌||◌, List, [], ◌∷◌, ◌++◌, filter, map, length, inl, inr, ⊎_elim, refl, sym, ap, subst, ◌∙◌, arith}
use Rattle.std.specs.Prelude.{Option, Some, None, is_some, unwrap_or, bytes_eq, find, flat_map, if◌then◌else◌}
use Rattle.std.specs.List.{list_any, list_all}
use Rattle.std.proofs.lemmas.Bool.{and_parts, and_from, or_cases, or_left, or_right, or_parts, and_left, eqb-true, eq-eqb, ne_eqb}
use Rattle.list_places.specs.Has.{Has}
use Rattle.list_places.proofs.Lists.{has_right, has_either, has_filter, filter_has, has_map, map_has, has_pick, pick_has, has_flat, flat_has, any_has, has_any, all_has, find_has}
use Rattle.name_rules.specs.object_file.wl_base.Choice.{has_name}
use Rattle.name_rules.specs.object_file.linking_section.declared.symbol.Symbol.{Symbol}
use Rattle.name_rules.specs.object_file.linking_section.declared.symbol.SymbolKind.TheVariants.{Section}
use Rattle.name_rules.specs.object_file.linking_section.Flags.{is_weak, is_local, is_undefined, is_explicit, is_definition, is_strong_reference}
use Rattle.name_rules.specs.object_file.declared.object.Object.{Object}
use Rattle.made_symbols.specs.declared.mode.Mode.TheVariants.{Plain}
use Rattle.made_symbols.specs.Made.{MadeSymbol, made}
use Rattle.round_rules.specs.Rounds.{names_where, defined_names, strong_names, is_defined}
use Rattle.name_rules.specs.Entries.{InputSymbol, name_of, is_named, named, is_kind, is_entry, entries, entry_in, entries_from, symbols_of, made_from, same_entry}
use Rattle.name_rules.specs.Meanings.{definitions, winner}
use Rattle.link_rules.specs.Program.{Program, is_that, is_winner, winners_of}
use Rattle.link_rules.specs.Marks.{all_symbols, refs_of}
use Rattle.partial_rules.specs.Partial.{is_none, object_winner, least_in_object, name_references, names_it, is_referenced, stands_for_name, stands, standing, is_open, open_symbol, defined_index, symbol_for}
use Rattle.partial_laws.specs.Inputs.{Run, Objects, whole_objects, run_objects, AreCut}
use Rattle.partial_laws.specs.Standing.{defines_in, alone_symbol}
use Rattle.partial_laws.specs.Loaded.{AreLoaded}
use Rattle.partial_laws.specs.Names.{IsOf}
use Rattle.partial_laws.proofs.Same.{name_itself, name_equal, entry_itself}
use Rattle.partial_laws.proofs.Flags.{open_undefined, open_weak}
use Rattle.partial_laws.proofs.Symbols.{all_alone}
use Rattle.partial_laws.proofs.Leasts.{least_none}
use Rattle.partial_laws.proofs.Loading.{middle_found}
use Rattle.partial_laws.proofs.Opened.{none_here, definition, all_true}
use Rattle.partial_laws.proofs.Won.{Winning, winning}
use Rattle.partial_laws.proofs.Taken.{dropped}
use Rattle.partial_loading_laws.specs.Names.{RunsStandForNames}
use Rattle.partial_loading_laws.proofs.Names.{both_ways, has_named, named_has}

no_true : false ≡ true → ⊥
no_true e = absurd cc

not_true : (b : Bool) → not b ≡ true → b ≡ false
not_true true e = absurd cc
not_true false e = refl

some_name : (o : Option (List ℕ)) (name : List ℕ) → is_some o ≡ true → unwrap_or o [] ≡ name → o ≡ Some name
some_name None name some e = absurd (no_true some)
some_name (Some n) name some e = ap Some e

not_found : {A : Type 0} (t : A → Bool) (xs : List A) → find t xs ≡ None → (x : A) → Has xs x → t x ≡ true → ⊥
not_found t [] none x has passes = has
not_found {A} t (y ∷ ys) none x has passes = by_test (t y) refl none has (not_found t ys)
  where
    by_test : (b : Bool) → t y ≡ b → (if b then Some y else find t ys) ≡ None → Has (y ∷ ys) x → (find t ys ≡ None → (z : A) → Has ys z → t z ≡ true → ⊥) → ⊥
    by_test true is e has rest = absurd cc
    by_test false is e (inl same) rest = no_true (sym is ∙ (ap t same ∙ passes))
    by_test false is e (inr below) rest = rest e x below passes

some_there : {A : Type 0} (xs : List A) (x : A) → Has xs x → (length xs == 0) ≡ false
some_there [] x has = absurd has
some_there (y ∷ ys) x has = ne_eqb (length (y ∷ ys)) 0 (λ e. omega (arith, e))

not_all : {A : Type 0} (t : A → Bool) (xs : List A) → list_all t xs ≡ false → (x : A) × Has xs x × (t x ≡ false)
not_all t [] e = absurd (no_true (sym e))
not_all {A} t (y ∷ ys) e = by_test (t y) refl e (not_all t ys)
  where
    by_test : (b : Bool) → t y ≡ b → (b && list_all t ys) ≡ false → (list_all t ys ≡ false → (x : A) × Has ys x × (t x ≡ false)) → (x : A) × Has (y ∷ ys) x × (t x ≡ false)
    by_test true is e rest = let r = rest e in (r.0, inr r.1, r.2)
    by_test false is e rest = (y, inl refl, is)

-- ---- names of an object

name_there : (test : Symbol → Bool) (o : Object) (name : List ℕ) (s : Symbol) → Has o.symbols s → test s ≡ true → s.name ≡ Some name → has_name (names_where test o) name ≡ true
name_there test o name s has passes is =
    has_named (names_where test o) name (pick_has (λ (x : Symbol). x.name) (filter test o.symbols) s name (filter_has test o.symbols s has passes) is)

record NamedBy (test : Symbol → Bool) (o : Object) (name : List ℕ) : Type 0 where
  symbol : Symbol
  there : Has o.symbols symbol
  passes : test symbol ≡ true
  is : symbol.name ≡ Some name

named_by : (test : Symbol → Bool) (o : Object) (name : List ℕ) → has_name (names_where test o) name ≡ true → NamedBy test o name
named_by test o name e =
    let p = has_pick (λ (x : Symbol). x.name) (filter test o.symbols) name (named_has (names_where test o) name e) in
    let f = has_filter test o.symbols p.0 p.1 in
    record { symbol = p.0; there = f.0; passes = f.1; is = p.2 }

-- ---- the linker's own

made_there : (place : ℕ) (ms : List MadeSymbol) (d : InputSymbol) (name : List ℕ) → Has (made_from place ms) d → name_of d ≡ name → list_any (λ m. bytes_eq m.name name) ms ≡ true
made_there place [] d name has is = absurd has
made_there place (m ∷ ms) d name (inl e) is =
    let same : m.name ≡ name = ap (λ (x : InputSymbol). name_of x) e ∙ is in
    or_left (bytes_eq m.name name) (list_any (λ m. bytes_eq m.name name) ms) (ap (λ n. bytes_eq n name) same ∙ name_itself name)
made_there place (m ∷ ms) d name (inr has) is = or_right (bytes_eq m.name name) (list_any (λ m. bytes_eq m.name name) ms) (made_there (place + 1) ms d name has is)

made_is : (place : ℕ) (ms : List MadeSymbol) (d : InputSymbol) → Has (made_from place ms) d → (d.input ≡ 0) × (d.defines ≡ true)
made_is place [] d has = absurd has
made_is place (m ∷ ms) d (inl e) = (ap (λ (x : InputSymbol). x.input) (sym e), ap (λ (x : InputSymbol). x.defines) (sym e))
made_is place (m ∷ ms) d (inr has) = made_is (place + 1) ms d has

listed : (objects : List Object) (o : Object) (at : ℕ) (ss : List Symbol) (s : Symbol) → Has ss s → (place : ℕ) × Has (entries_from objects o at ss) (entry_in objects o place s)
listed objects o at [] s has = absurd has
listed objects o at (x ∷ ss) s (inl is) = (at, inl (ap (entry_in objects o at) is))
listed objects o at (x ∷ ss) s (inr has) = let r = listed objects o (at + 1) ss s has in (r.0, inr r.1)

from_listed : (objects : List Object) (o : Object) (at : ℕ) (ss : List Symbol) (e : InputSymbol) → Has (entries_from objects o at ss) e → Has ss e.symbol × (e.input ≡ o.input)
from_listed objects o at [] e has = absurd has
from_listed objects o at (s ∷ ss) e (inl is) = (inl (ap (λ (x : InputSymbol). x.symbol) is), ap (λ (x : InputSymbol). x.input) (sym is))
from_listed objects o at (s ∷ ss) e (inr has) = let r = from_listed objects o (at + 1) ss e has in (inr r.0, r.1)

-- ---- definitions and references by flags

seen : (s : Symbol) → (is_some s.name && not (is_local s && not (is_undefined s))) ≡ true → is_undefined s ≡ false → is_definition s ≡ true
seen s entry defined = by_flags (is_some s.name) (is_local s) (is_undefined s) entry defined
  where
    by_flags : (n l u : Bool) → (n && not (l && not u)) ≡ true → u ≡ false → (n && not u && not l) ≡ true
    by_flags n l true e d = absurd (no_true (sym d))
    by_flags false l false e d = absurd (no_true e)
    by_flags true true false e d = absurd (no_true e)
    by_flags true false false e d = refl

seen_entry : (s : Symbol) → is_definition s ≡ true → (is_some s.name && not (is_local s && not (is_undefined s))) ≡ true
seen_entry s is = by_flags (is_some s.name) (is_local s) (is_undefined s) is
  where
    by_flags : (n l u : Bool) → (n && not u && not l) ≡ true → (n && not (l && not u)) ≡ true
    by_flags false l u e = absurd (no_true e)
    by_flags true l true e = absurd (no_true e)
    by_flags true true false e = absurd (no_true e)
    by_flags true false false e = refl

seen_defined : (s : Symbol) → is_definition s ≡ true → is_undefined s ≡ false
seen_defined s is = by_flags (is_some s.name) (is_local s) (is_undefined s) is
  where
    by_flags : (n l u : Bool) → (n && not u && not l) ≡ true → u ≡ false
    by_flags n l false e = refl
    by_flags false l true e = absurd (no_true e)
    by_flags true l true e = absurd (no_true e)

strong_parts : (s : Symbol) → is_strong_reference s ≡ true → (is_some s.name ≡ true) × (is_undefined s ≡ true) × (is_weak s ≡ false)
strong_parts s is = by_flags (is_some s.name) (is_undefined s) (is_weak s) is
  where
    by_flags : (n u w : Bool) → (n && u && not w) ≡ true → (n ≡ true) × (u ≡ true) × (w ≡ false)
    by_flags true true false e = (refl, refl, refl)
    by_flags true true true e = absurd (no_true e)
    by_flags true false w e = absurd (no_true e)
    by_flags false u w e = absurd (no_true e)

strong_from : (s : Symbol) → is_some s.name ≡ true → is_undefined s ≡ true → is_weak s ≡ false → is_strong_reference s ≡ true
strong_from s n u w = by_flags (is_some s.name) (is_undefined s) (is_weak s) n u w
  where
    by_flags : (n u w : Bool) → n ≡ true → u ≡ true → w ≡ false → (n && u && not w) ≡ true
    by_flags true true false a b c = refl
    by_flags true true true a b c = absurd (no_true (sym c))
    by_flags true false w a b c = absurd (no_true b)
    by_flags false u w a b c = absurd (no_true a)

undefined_entry : (s : Symbol) → is_some s.name ≡ true → is_undefined s ≡ true → (is_some s.name && not (is_local s && not (is_undefined s))) ≡ true
undefined_entry s n u = by_flags (is_some s.name) (is_local s) (is_undefined s) n u
  where
    by_flags : (n l u : Bool) → n ≡ true → u ≡ true → (n && not (l && not u)) ≡ true
    by_flags true true true a b = refl
    by_flags true false true a b = refl
    by_flags n l false a b = absurd (no_true b)
    by_flags false l true a b = absurd (no_true a)

module _ (run : Run) (os : Objects) (p : Program) (cut : AreCut run os) (loaded : AreLoaded (whole_objects os)) (is_of : IsOf p (run_objects run os)) (symbols : os.joined.symbols ≡ map (symbol_for p) (standing p)) where
  abbrev W : List Object
  W = whole_objects os

  abbrev RO : List Object
  RO = run_objects run os

  abbrev M : List InputSymbol
  M = flat_map (symbols_of W) os.middle

  abbrev al : InputSymbol → InputSymbol
  al = alone_symbol run os

  alone_all : all_symbols p ≡ map al M
  alone_all = is_of.symbols_are ∙ all_alone run os cut (middle_found run os cut loaded.rise)

  -- ---- symbols of the run

  record OfRun (e : InputSymbol) : Type 0 where
    object : Object
    there : Has os.middle object
    symbol : Has object.symbols e.symbol
    input : run.first < e.input

  of_run : (e : InputSymbol) → Has M e → OfRun e
  of_run e has =
      let f = has_flat (symbols_of W) os.middle e has in
      let s = from_listed W f.0 0 f.0.symbols e f.2 in
      let low : run.first < f.0.input = all_has (λ (o : Object). run.first < o.input) os.middle cut.from f.0 f.1 in
      record { object = f.0; there = f.1; symbol = s.0; input = subst (λ n. run.first < n) (sym s.1) low }

  symbol_there : (o : Object) → Has os.middle o → (s : Symbol) → Has o.symbols s → (place : ℕ) × Has M (entry_in W o place s)
  symbol_there o ho s hs = let r = listed W o 0 o.symbols s hs in (r.0, flat_has (symbols_of W) os.middle o (entry_in W o r.0 s) ho r.1)

  alone_there : (e : InputSymbol) → Has M e → Has (all_symbols p) (al e)
  alone_there e has = subst (λ xs. Has xs (al e)) (sym alone_all) (map_has al M e has)

  entries_are : p.entries ≡ made_from 0 (made Plain) ++ filter is_entry (all_symbols p)
  unfolding entries
  entries_are = is_of.entries_are ∙ ap (λ xs. made_from 0 (made Plain) ++ filter is_entry xs) (sym is_of.symbols_are)

  alone_entry : (e : InputSymbol) → Has M e → is_entry e ≡ true → Has p.entries (al e)
  alone_entry e has entry =
      subst (λ xs. Has xs (al e)) (sym entries_are) (has_right (made_from 0 (made Plain)) (filter is_entry (all_symbols p)) (al e) (filter_has is_entry (all_symbols p) (al e) (alone_there e has) entry))

  -- An entry in an object.
  record FromRun (d : InputSymbol) : Type 0 where
    whole : InputSymbol
    there : Has M whole
    is : al whole ≡ d
    entry : is_entry d ≡ true

  from_run : (d : InputSymbol) → Has p.entries d → Has (made_from 0 (made Plain)) d ⊎ FromRun d
  from_run d has =
      ⊎_elim (λ h. inl h)
      (λ h.
      let f = has_filter is_entry (all_symbols p) d h in
      let m = has_map al M d (subst (λ xs. Has xs d) alone_all f.0) in
      inr (record { whole = m.0; there = m.1; is = m.2; entry = f.1 }))
      (has_either (made_from 0 (made Plain)) (filter is_entry (all_symbols p)) d (subst (λ xs. Has xs d) entries_are has))

  not_made : (d : InputSymbol) → FromRun d → (d.input == 0) ≡ false
  not_made d f =
      let o = of_run f.whole f.there in
      let i : f.whole.input - run.first ≡ d.input = ap (λ (x : InputSymbol). x.input) f.is in
      let low : run.first < f.whole.input = o.input in
      ne_eqb d.input 0 (λ e. omega (arith, i, low, e))

  defined_by : (e : InputSymbol) (o : Option Object) → defines_in run os e o ≡ true → is_undefined e.symbol ≡ false
  defined_by e None d = absurd (no_true d)
  defined_by e (Some o) d = not_true (is_undefined e.symbol) (and_parts (not (is_undefined e.symbol)) _ d).0

  run_defined : (d : InputSymbol) → FromRun d → d.defines ≡ true → is_undefined d.symbol ≡ false
  run_defined d f defines =
      ap (λ (x : InputSymbol). is_undefined x.symbol) (sym f.is)
      ∙ defined_by f.whole (find (λ (o : Object). o.input == f.whole.input) os.middle) (ap (λ (x : InputSymbol). x.defines) f.is ∙ defines)

  -- what an object of the run defines
  defines_name : (name : List ℕ) (d : InputSymbol) → FromRun d → name_of d ≡ name → is_undefined d.symbol ≡ false → list_any (λ o. has_name (defined_names o) name) os.middle ≡ true
  defines_name name d f named_so defined =
      let o = of_run f.whole f.there in
      let same : f.whole.symbol ≡ d.symbol = ap (λ (x : InputSymbol). x.symbol) f.is in
      let n = and_parts (is_some d.symbol.name) (not (is_local d.symbol && not (is_undefined d.symbol))) f.entry in
      any_has (λ o. has_name (defined_names o) name) os.middle o.object o.there
      (name_there is_definition o.object name d.symbol (subst (Has o.object.symbols) same o.symbol) (seen d.symbol f.entry defined) (some_name d.symbol.name name n.0 named_so))

  -- ---- winners

  -- A name that something defines in the run alone is made, or an object wins it.
  data Wins (name : List ℕ) : Type 0 where
    by_linker : list_any (λ m. bytes_eq m.name name) (made Plain) ≡ true → Wins name
    by_object : (w y : InputSymbol) → FromRun w → name_of w ≡ name → w.defines ≡ true → object_winner p name ≡ Some y → same_entry w y ≡ true → Wins name

  turned : (a b : InputSymbol) → same_entry a b ≡ true → same_entry b a ≡ true
  turned a b e =
      let q = and_parts (a.input == b.input) (a.place == b.place) e in
      and_from (b.input == a.input) (b.place == a.place) (eq-eqb b.input a.input (sym (eqb-true a.input b.input q.0))) (eq-eqb b.place a.place (sym (eqb-true a.place b.place q.1)))

  winners_are : p.winners ≡ filter (is_winner p.entries) p.entries
  unfolding winners_of
  winners_are = is_of.winners_are

  abbrev by_any : List ℕ → (InputSymbol → Bool)
  by_any name = λ (w : InputSymbol). not (w.input == 0) && is_named name w

  wins : (name : List ℕ) (d : InputSymbol) → Has p.entries d → name_of d ≡ name → d.defines ≡ true → Wins name
  wins name d has named_so defines = by_winner (winner p.entries name) refl
    where
      by_found : (w : InputSymbol) → winner p.entries name ≡ Some w → (won : Winning p.entries name w) → FromRun w → (o : Option InputSymbol) → object_winner p name ≡ o → Wins name
      by_found w is won f None none =
          let here : is_winner p.entries w ≡ true = ap (λ n. is_that w (winner p.entries n)) won.named_so ∙ (ap (is_that w) is ∙ entry_itself w) in
          absurd (not_found (by_any name) p.winners none w
          (subst (λ xs. Has xs w) (sym winners_are) (filter_has (is_winner p.entries) p.entries w won.entry here))
          (and_from (not (w.input == 0)) (is_named name w) (ap not (not_made w f)) (ap (λ n. bytes_eq n name) won.named_so ∙ name_itself name)))
      by_found w is won f (Some y) some =
          let g = find_has (by_any name) p.winners y some in
          let h = has_filter (is_winner p.entries) p.entries y (subst (λ xs. Has xs y) winners_are g.0) in
          let n : name_of y ≡ name = name_equal (name_of y) name (and_parts (not (y.input == 0)) (is_named name y) g.1).1 in
          by_object w y f won.named_so won.defines some (turned y w (sym (ap (is_that y) (ap (winner p.entries) n ∙ is)) ∙ h.1))

      by_winner : (o : Option InputSymbol) → winner p.entries name ≡ o → Wins name
      by_winner None none = absurd (none_here (definitions p.entries name) d (definition p.entries d name has named_so defines) (least_none (definitions p.entries name) none))
      by_winner (Some w) is =
          let won = winning p.entries name w is in
          ⊎_elim (λ m. by_linker (made_there 0 (made Plain) w name m won.named_so)) (λ f. by_found w is won f (object_winner p name) refl) (from_run w won.entry)

  -- where an object wins a name, one defines it
  winner_defines : (name : List ℕ) (y : InputSymbol) → object_winner p name ≡ Some y → list_any (λ o. has_name (defined_names o) name) os.middle ≡ true
  winner_defines name y some =
      let g = find_has (by_any name) p.winners y some in
      let h = has_filter (is_winner p.entries) p.entries y (subst (λ xs. Has xs y) winners_are g.0) in
      let q = and_parts (not (y.input == 0)) (is_named name y) g.1 in
      let n : name_of y ≡ name = name_equal (name_of y) name q.1 in
      by_winner (winner p.entries name) refl (sym (ap (λ m. is_that y (winner p.entries m)) n) ∙ h.1) (not_true (y.input == 0) q.0)
    where
      by_winner : (o : Option InputSymbol) → winner p.entries name ≡ o → is_that y (winner p.entries name) ≡ true → (y.input == 0) ≡ false → list_any (λ o. has_name (defined_names o) name) os.middle ≡ true
      by_winner None none that away = absurd (no_true (sym (ap (is_that y) none) ∙ that))
      by_winner (Some w) is that away =
          let won = winning p.entries name w is in
          let same : y.input ≡ w.input = eqb-true y.input w.input (and_parts (y.input == w.input) (y.place == w.place) (sym (ap (is_that y) is) ∙ that)).0 in
          ⊎_elim (λ m. absurd (no_true (sym away ∙ eq-eqb y.input 0 (same ∙ (made_is 0 (made Plain) w m).0)))) (λ f. defines_name name w f won.named_so (run_defined w f won.defines)) (from_run w won.entry)

  -- ---- what the one object has

  joined_there : (x : InputSymbol) → Has (standing p) x → Has os.joined.symbols (symbol_for p x)
  joined_there x has = subst (λ xs. Has xs (symbol_for p x)) (sym symbols) (map_has (symbol_for p) (standing p) x has)

  record Stood (t : Symbol) : Type 0 where
    symbol : InputSymbol
    is : symbol_for p symbol ≡ t
    whole : InputSymbol
    there : Has M whole
    alone_is : al whole ≡ symbol

  stood : (t : Symbol) → Has os.joined.symbols t → Stood t
  stood t has =
      let m = has_map (symbol_for p) (standing p) t (subst (λ xs. Has xs t) symbols has) in
      let f = has_filter (stands p) (all_symbols p) m.0 m.1 in
      let w = has_map al M m.0 (subst (λ xs. Has xs m.0) alone_all f.0) in
      record { symbol = m.0; is = m.2; whole = w.0; there = w.1; alone_is = w.2 }

  closed_symbol : (x : InputSymbol) → is_open p x ≡ false → symbol_for p x ≡ record x.symbol { index = defined_index p x x.symbol.kind }
  closed_symbol x e = ap (λ (b : Bool). if b then open_symbol p x else record x.symbol { index = defined_index p x x.symbol.kind }) e

  opened_symbol : (x : InputSymbol) → is_open p x ≡ true → symbol_for p x ≡ open_symbol p x
  opened_symbol x e = ap (λ (b : Bool). if b then open_symbol p x else record x.symbol { index = defined_index p x x.symbol.kind }) e

  open_is_undefined : (x : InputSymbol) → is_undefined (open_symbol p x) ≡ true
  open_is_undefined x = open_undefined x.symbol.flags (list_all (λ r. is_weak r.symbol) (name_references p (name_of x))) (list_any (λ r. is_explicit r.symbol) (name_references p (name_of x)))

  open_is_weak : (x : InputSymbol) → is_weak (open_symbol p x) ≡ list_all (λ r. is_weak r.symbol) (name_references p (name_of x))
  open_is_weak x = open_weak x.symbol.flags (list_all (λ r. is_weak r.symbol) (name_references p (name_of x))) (list_any (λ r. is_explicit r.symbol) (name_references p (name_of x)))

  -- ---- definitions

  abbrev is_made : List ℕ → Bool
  is_made name = list_any (λ m. bytes_eq m.name name) (made Plain)

  abbrev in_middle : List ℕ → Bool
  in_middle name = list_any (λ o. has_name (defined_names o) name) os.middle

  abbrev in_joined : List ℕ → Bool
  in_joined name = has_name (defined_names os.joined) name

  -- by what an object wins
  won_joined : (name : List ℕ) → Wins name → (is_made name || (in_joined name || false)) ≡ true
  won_joined name (by_linker m) = or_left (is_made name) (in_joined name || false) m
  won_joined name (by_object w y f named_so defines some same) =
      let found : object_winner p (name_of w) ≡ Some y = ap (object_winner p) named_so ∙ some in
      let stands_so : stands p w ≡ true =
      ap (λ (b : Bool). if b then stands_for_name p w (object_winner p (name_of w)) else (w.defines && not (is_kind Section w))) f.entry ∙ (ap (stands_for_name p w) found ∙ same) in
      let there : Has (standing p) w = filter_has (stands p) (all_symbols p) w (subst (Has (all_symbols p)) f.is (alone_there f.whole f.there)) stands_so in
      let closed : is_open p w ≡ false = ap (λ o. is_entry w && is_none o) found ∙ and_none (is_entry w) in
      let n = and_parts (is_some w.symbol.name) (not (is_local w.symbol && not (is_undefined w.symbol))) f.entry in
      let definition_so : is_definition (symbol_for p w) ≡ true = ap is_definition (closed_symbol w closed) ∙ seen w.symbol f.entry (run_defined w f defines) in
      or_right (is_made name) (in_joined name || false)
      (or_left (in_joined name) false (name_there is_definition os.joined name (symbol_for p w) (joined_there w there) definition_so (ap (λ (t : Symbol). t.name) (closed_symbol w closed) ∙ some_name w.symbol.name name n.0 named_so)))
    where
      and_none : (b : Bool) → (b && false) ≡ false
      and_none true = refl
      and_none false = refl

  defined_joined : (name : List ℕ) → in_middle name ≡ true → (is_made name || (in_joined name || false)) ≡ true
  defined_joined name e =
      let a = has_any (λ o. has_name (defined_names o) name) os.middle e in
      let n = named_by is_definition a.0 name a.2 in
      let at = symbol_there a.0 a.1 n.symbol n.there in
      let u : InputSymbol = entry_in W a.0 at.0 n.symbol in
      let entry : is_entry u ≡ true = seen_entry n.symbol n.passes in
      let named_so : name_of u ≡ name = ap (λ (x : Option (List ℕ)). unwrap_or x []) n.is in
      by_alone u at.1 entry named_so (seen_defined n.symbol n.passes) (al u).defines refl
    where
      by_alone : (u : InputSymbol) → Has M u → is_entry u ≡ true → name_of u ≡ name → is_undefined u.symbol ≡ false → (b : Bool) → (al u).defines ≡ b → (is_made name || (in_joined name || false)) ≡ true
      by_alone u has entry named_so defined true d = won_joined name (wins name (al u) (alone_entry u has entry) named_so d)
      by_alone u has entry named_so defined false d =
          let r = all_has (λ (e : InputSymbol). is_entry e ≡ true → (alone_symbol run os e).defines ≡ false → is_undefined e.symbol ≡ false → (x : InputSymbol) × Has (entries Plain RO) x × (name_of x ≡ name_of e) × (x.defines ≡ true))
          M (dropped run os p cut loaded) u has entry d defined in
          won_joined name (wins name r.0 (subst (λ xs. Has xs r.0) (sym is_of.entries_are) r.1) (r.2 ∙ named_so) r.3)

  joined_defined : (name : List ℕ) → in_joined name ≡ true → in_middle name ≡ true
  joined_defined name e =
      let n = named_by is_definition os.joined name e in
      let s = stood n.symbol n.there in
      let o = of_run s.whole s.there in
      by_open s.symbol n.symbol s.is o.object o.there (subst (Has o.object.symbols) (ap (λ (x : InputSymbol). x.symbol) s.alone_is) o.symbol) n.passes n.is (is_open p s.symbol) refl
    where
      by_open : (x : InputSymbol) (t : Symbol) → symbol_for p x ≡ t → (o : Object) → Has os.middle o → Has o.symbols x.symbol → is_definition t ≡ true → t.name ≡ Some name → (b : Bool) → is_open p x ≡ b → in_middle name ≡ true
      by_open x t is o ho hx def named_so true is_so =
          absurd (no_true (sym (seen_defined t def) ∙ (ap is_undefined (sym is ∙ opened_symbol x is_so) ∙ open_is_undefined x)))
      by_open x t is o ho hx def named_so false is_so =
          let same : record x.symbol { index = defined_index p x x.symbol.kind } ≡ t = sym (closed_symbol x is_so) ∙ is in
          any_has (λ o. has_name (defined_names o) name) os.middle o ho
          (name_there is_definition o name x.symbol hx (ap is_definition same ∙ def) (ap (λ (y : Symbol). y.name) same ∙ named_so))

  defines_same : (name : List ℕ) → is_defined Plain (os.joined ∷ []) name ≡ is_defined Plain os.middle name
  defines_same name = both_ways (is_made name || (in_joined name || false)) (is_made name || in_middle name)
      (λ e. ⊎_elim (λ m. or_left (is_made name) (in_middle name) m)
      (λ j. or_right (is_made name) (in_middle name) (joined_defined name (⊎_elim (λ x. x) (λ f. absurd (no_true f)) (or_cases (in_joined name) false j))))
      (or_cases (is_made name) (in_joined name || false) e))
      (λ e. ⊎_elim (λ m. or_left (is_made name) (in_joined name || false) m) (λ j. defined_joined name j) (or_cases (is_made name) (in_middle name) e))

  -- ---- strong references

  module _ (name : List ℕ) (undefined_so : is_defined Plain os.middle name ≡ false) where
    not_made_so : is_made name ≡ false
    not_made_so = (or_parts (is_made name) (in_middle name) undefined_so).0

    none_defines : in_middle name ≡ true → ⊥
    none_defines e = no_true (sym (or_parts (is_made name) (in_middle name) undefined_so).1 ∙ e)

    abbrev strong_middle : Bool
    strong_middle = list_any (λ o. has_name (strong_names o) name) os.middle

    no_winner : object_winner p name ≡ None
    no_winner = by_found (object_winner p name) refl
      where
        by_found : (o : Option InputSymbol) → object_winner p name ≡ o → o ≡ None
        by_found None e = refl
        by_found (Some y) e = absurd (none_defines (winner_defines name y e))

    -- an entry of an object of the name
    object_entry : (d : InputSymbol) → Has p.entries d → name_of d ≡ name → FromRun d
    object_entry d has named_so = ⊎_elim (λ m. absurd (no_true (sym not_made_so ∙ made_there 0 (made Plain) d name m named_so))) (λ f. f) (from_run d has)

    -- A reference of the run that isn't WEAK.
    record Asked (x : InputSymbol) : Type 0 where
      there : Has p.entries x
      named_so : name_of x ≡ name
      defines : x.defines ≡ false
      strong : is_weak x.symbol ≡ false

    refs_have : (x : InputSymbol) → Has p.entries x → name_of x ≡ name → x.defines ≡ false → Has (name_references p name) x
    refs_have x has named_so defines =
        filter_has (λ (r : InputSymbol). not r.defines) (named p.entries name) x (filter_has (is_named name) p.entries x has (ap (λ n. bytes_eq n name) named_so ∙ name_itself name)) (ap not defines)

    asked_joined : (x : InputSymbol) → Asked x → has_name (strong_names os.joined) name ≡ true
    asked_joined x a = by_least (least_in_object p name) refl
      where
        passes : (d : InputSymbol) → FromRun d → name_of d ≡ name → (not (d.input == 0) && is_named name d) ≡ true
        passes d f named_so = and_from (not (d.input == 0)) (is_named name d) (ap not (not_made d f)) (ap (λ n. bytes_eq n name) named_so ∙ name_itself name)

        by_least : (o : Option InputSymbol) → least_in_object p name ≡ o → has_name (strong_names os.joined) name ≡ true
        by_least None none = absurd (not_found (λ (e : InputSymbol). not (e.input == 0) && is_named name e) p.entries none x a.there (passes x (object_entry x a.there a.named_so) a.named_so))
        by_least (Some z) some =
            let g = find_has (λ (e : InputSymbol). not (e.input == 0) && is_named name e) p.entries z some in
            let n : name_of z ≡ name = name_equal (name_of z) name (and_parts (not (z.input == 0)) (is_named name z) g.1).1 in
            let f = object_entry z g.0 n in
            let referenced : is_referenced p name ≡ true =
            or_left (not (length (name_references p name) == 0)) (list_any (names_it p name) (refs_of p.parts)) (ap not (some_there (name_references p name) x (refs_have x a.there a.named_so a.defines))) in
            let first : stands_for_name p z None ≡ true =
            ap (λ m. is_that z (least_in_object p m) && is_referenced p m) n ∙ (ap (λ o. is_that z o && is_referenced p name) some ∙ and_from (same_entry z z) (is_referenced p name) (entry_itself z) referenced) in
            let stands_so : stands p z ≡ true =
            ap (λ (b : Bool). if b then stands_for_name p z (object_winner p (name_of z)) else (z.defines && not (is_kind Section z))) f.entry ∙ (ap (λ m. stands_for_name p z (object_winner p m)) n ∙ (ap (stands_for_name p z) no_winner ∙ first)) in
            let there : Has (standing p) z = filter_has (stands p) (all_symbols p) z (subst (Has (all_symbols p)) f.is (alone_there f.whole f.there)) stands_so in
            let open_so : is_open p z ≡ true = and_from (is_entry z) (is_none (object_winner p (name_of z))) f.entry (ap (λ m. is_none (object_winner p m)) n ∙ ap is_none no_winner) in
            let weak_not : is_weak (open_symbol p z) ≡ false = open_is_weak z ∙ (ap (λ m. list_all (λ r. is_weak r.symbol) (name_references p m)) n ∙ none_all (list_all (λ r. is_weak r.symbol) (name_references p name)) refl) in
            let strong_so : is_strong_reference (symbol_for p z) ≡ true = ap is_strong_reference (opened_symbol z open_so) ∙ strong_from (open_symbol p z) refl (open_is_undefined z) weak_not in
            name_there is_strong_reference os.joined name (symbol_for p z) (joined_there z there) strong_so (ap (λ (t : Symbol). t.name) (opened_symbol z open_so) ∙ ap Some n)
          where
            none_all : (b : Bool) → list_all (λ r. is_weak r.symbol) (name_references p name) ≡ b → b ≡ false
            none_all true e = absurd (no_true (sym a.strong ∙ all_true (λ r. is_weak r.symbol) (name_references p name) e x (refs_have x a.there a.named_so a.defines)))
            none_all false e = refl

    undefines : (e : InputSymbol) (o : Option Object) → is_undefined e.symbol ≡ true → defines_in run os e o ≡ false
    undefines e None u = refl
    undefines e (Some o) u = and_left (not (is_undefined e.symbol)) _ (ap not u)

    middle_asks : strong_middle ≡ true → has_name (strong_names os.joined) name ≡ true
    middle_asks e =
        let a = has_any (λ o. has_name (strong_names o) name) os.middle e in
        let n = named_by is_strong_reference a.0 name a.2 in
        let at = symbol_there a.0 a.1 n.symbol n.there in
        let u : InputSymbol = entry_in W a.0 at.0 n.symbol in
        let s = strong_parts n.symbol n.passes in
        asked_joined (al u)
        (record {
          there = alone_entry u at.1 (undefined_entry n.symbol s.0 s.1);
          named_so = ap (λ (x : Option (List ℕ)). unwrap_or x []) n.is;
          defines = undefines u (find (λ (o : Object). o.input == u.input) os.middle) s.1;
          strong = s.2;
        })

    -- a strong reference of an object of the run
    asks : (x : InputSymbol) (o : Object) → Has os.middle o → Has o.symbols x.symbol → is_some x.symbol.name ≡ true → name_of x ≡ name → is_undefined x.symbol ≡ true → is_weak x.symbol ≡ false → strong_middle ≡ true
    asks x o ho hx some named_so u w =
        any_has (λ o. has_name (strong_names o) name) os.middle o ho (name_there is_strong_reference o name x.symbol hx (strong_from x.symbol some u w) (some_name x.symbol.name name some named_so))

    joined_asks : has_name (strong_names os.joined) name ≡ true → strong_middle ≡ true
    joined_asks e =
        let n = named_by is_strong_reference os.joined name e in
        let s = stood n.symbol n.there in
        let o = of_run s.whole s.there in
        by_open s.symbol n.symbol s.is o.object o.there (subst (Has o.object.symbols) (ap (λ (x : InputSymbol). x.symbol) s.alone_is) o.symbol) n.passes n.is (is_open p s.symbol) refl
      where
        by_reference : (r : InputSymbol) → Has (name_references p name) r → is_weak r.symbol ≡ false → strong_middle ≡ true
        by_reference r has w =
            let d = has_filter (λ (z : InputSymbol). not z.defines) (named p.entries name) r has in
            let m = has_filter (is_named name) p.entries r d.0 in
            let named_so : name_of r ≡ name = name_equal (name_of r) name m.1 in
            let f = object_entry r m.0 named_so in
            let o = of_run f.whole f.there in
            let there : Has o.object.symbols r.symbol = subst (Has o.object.symbols) (ap (λ (z : InputSymbol). z.symbol) f.is) o.symbol in
            let some = (and_parts (is_some r.symbol.name) (not (is_local r.symbol && not (is_undefined r.symbol))) f.entry).0 in
            by_undefined f o.object o.there there some named_so (is_undefined r.symbol) refl
          where
            by_undefined : FromRun r → (o : Object) → Has os.middle o → Has o.symbols r.symbol → is_some r.symbol.name ≡ true → name_of r ≡ name → (b : Bool) → is_undefined r.symbol ≡ b → strong_middle ≡ true
            by_undefined f o ho hr some named_so true u = asks r o ho hr some named_so u w
            by_undefined f o ho hr some named_so false u = absurd (none_defines (defines_name name r f named_so u))

        by_open : (x : InputSymbol) (t : Symbol) → symbol_for p x ≡ t → (o : Object) → Has os.middle o → Has o.symbols x.symbol → is_strong_reference t ≡ true → t.name ≡ Some name → (b : Bool) → is_open p x ≡ b → strong_middle ≡ true
        by_open x t is o ho hx strong named_so true open_so =
            let same : open_symbol p x ≡ t = sym (opened_symbol x open_so) ∙ is in
            let n : name_of x ≡ name = ap (λ (z : Option (List ℕ)). unwrap_or z []) (ap (λ (z : Symbol). z.name) same ∙ named_so) in
            let weak_not : list_all (λ r. is_weak r.symbol) (name_references p name) ≡ false = sym (open_is_weak x ∙ ap (λ m. list_all (λ r. is_weak r.symbol) (name_references p m)) n) ∙ (ap is_weak same ∙ (strong_parts t strong).2) in
            let r = not_all (λ r. is_weak r.symbol) (name_references p name) weak_not in
            by_reference r.0 r.1 r.2
        by_open x t is o ho hx strong named_so false open_so =
            let same : record x.symbol { index = defined_index p x x.symbol.kind } ≡ t = sym (closed_symbol x open_so) ∙ is in
            let q = strong_parts t strong in
            let named_x : x.symbol.name ≡ Some name = ap (λ (y : Symbol). y.name) same ∙ named_so in
            asks x o ho hx (ap is_some named_x) (ap (λ (z : Option (List ℕ)). unwrap_or z []) named_x) (ap is_undefined same ∙ q.1) (ap is_weak same ∙ q.2)

  asks_same : (name : List ℕ) → is_defined Plain os.middle name ≡ false → has_name (strong_names os.joined) name ≡ list_any (λ o. has_name (strong_names o) name) os.middle
  asks_same name undefined_so = both_ways (has_name (strong_names os.joined) name) (list_any (λ o. has_name (strong_names o) name) os.middle) (joined_asks name undefined_so) (middle_asks name undefined_so)

pub runs_stand_for_names : RunsStandForNames
runs_stand_for_names run os p cut loaded is_of symbols = record { defines = defines_same run os p cut loaded is_of symbols; asks = asks_same run os p cut loaded is_of symbols }
