-- What each symbol that is kept is in the later link.
use Rattle.std.proofs.Common.{◌≡◌, ℕ, ◌+◌, ◌-◌, ◌*◌, ◌^◌, ◌<◌, ◌≤◌, ◌==◌, Bool, true, false, not, ◌&&◌, nat_lt, List, ⊎_elim, refl, sym, ap, subst, ◌∙◌, arith}
use Rattle.std.specs.Prelude.{if◌then◌else◌, Option, Some, None, unwrap_or, slice_get, flat_map, All}
use Rattle.std.specs.List.{list_any, list_all}
use Rattle.std.proofs.lemmas.Bool.{and_parts, eq-eqb, ne_eqb, lt-ltb, le-ltb}
use Rattle.std.proofs.lemmas.Bool.Decides.{eqb_tells, nat_tests}
use Rattle.list_places.specs.Has.{Has, Apart}
use Rattle.list_places.proofs.Lists.{has_filter, filter_has, map_has, all_has, placed, stands as stands_at, apart_filter, some_is}
use Rattle.name_rules.specs.object_file.declared.object.Object.{Object}
use Rattle.name_rules.specs.object_file.linking_section.declared.symbol.SymbolKind.TheVariants.{Section}
use Rattle.name_rules.specs.object_file.linking_section.Flags.{is_weak, is_explicit}
use Rattle.name_rules.specs.Entries.{InputSymbol, name_of, is_kind, is_entry, symbols_of, in_kept_part, entry_in, same_entry}
use Rattle.index_layout.specs.Numbers.{number_by}
use Rattle.link_rules.specs.Program.{Program, is_that}
use Rattle.link_rules.specs.Marks.{all_symbols}
use Rattle.partial_rules.specs.Partial.{is_none, object_winner, least_in_object, is_referenced, stands, stands_for_name, standing, is_open, name_references, open_symbol, defined_index}
use Rattle.partial_laws.specs.Joining.{Joining, Kept}
use Rattle.partial_laws.specs.Inputs.{Run, later, Objects, whole_objects, later_objects, AreCut}
use Rattle.partial_laws.specs.Standing.{alone_symbol, later_symbol, joined_symbol, joining}
use Rattle.partial_laws.specs.Joined.{linked_symbols, SymbolsStand, NamesStand, SymbolsRead}
use Rattle.partial_laws.proofs.Same.{entry_itself}
use Rattle.partial_laws.proofs.Flags.{open_undefined}
use Rattle.partial_laws.proofs.Symbols.{all_alone}
use Rattle.partial_laws.proofs.Joins.{all_flat, not_after, not_before, stays_entry, of_run as run_inside}
use Rattle.partial_laws.proofs.Regions.{OfRun, region, entries_turned, entries_follow, apart_one}

-- ---- numbers

abbrev rank : ℕ → ℕ → ℕ → ℕ
rank c i s = c * 2 ^ 56 + i * 2 ^ 32 + s

tested : (a b : ℕ) (t : Bool) → (t ≡ true → a < b) → (t ≡ false → b ≤ a) → nat_lt a b ≡ t
tested a b true h k = lt-ltb a b (h refl)
tested a b false h k = le-ltb a b (k refl)

below : (n k : ℕ) → nat_lt n k ≡ true → n < k
below n k e = grind (arith, nat_tests, e)

not_below : (n k : ℕ) → nat_lt n k ≡ false → k ≤ n
not_below n k e = grind (arith, nat_tests, e)

-- A rank by its class, where the inputs differ.
pub first_input : (c d i j p q : ℕ) → i < j → i < 2 ^ 20 → j < 2 ^ 20 → p < 2 ^ 32 → q < 2 ^ 32 → nat_lt (rank c i p) (rank d j q) ≡ not (nat_lt d c)
first_input c d i j p q lt hi hj hp hq = by_class (nat_lt d c) refl
  where
    by_class : (t : Bool) → nat_lt d c ≡ t → nat_lt (rank c i p) (rank d j q) ≡ not t
    by_class true is = le-ltb (rank c i p) (rank d j q) (omega (arith, below d c is, hi, hj, hp, hq))
    by_class false is = lt-ltb (rank c i p) (rank d j q) (omega (arith, not_below d c is, lt, hp))

pub last_input : (c d i j p q : ℕ) → j < i → i < 2 ^ 20 → j < 2 ^ 20 → p < 2 ^ 32 → q < 2 ^ 32 → nat_lt (rank c i p) (rank d j q) ≡ nat_lt c d
last_input c d i j p q lt hi hj hp hq = by_class (nat_lt c d) refl
  where
    by_class : (t : Bool) → nat_lt c d ≡ t → nat_lt (rank c i p) (rank d j q) ≡ t
    by_class true is = lt-ltb (rank c i p) (rank d j q) (omega (arith, below c d is, hi, hj, hp, hq))
    by_class false is = le-ltb (rank c i p) (rank d j q) (omega (arith, not_below c d is, lt, hq))

-- Ranks whose inputs are lowered alike.
pub lowered_rank : (n c d i j p q : ℕ) → n ≤ i → n ≤ j → nat_lt (rank c (i - n) p) (rank d (j - n) q) ≡ nat_lt (rank c i p) (rank d j q)
lowered_rank n c d i j p q hi hj =
    tested (rank c (i - n) p) (rank d (j - n) q) (nat_lt (rank c i p) (rank d j q))
    (λ t. omega (arith, below (rank c i p) (rank d j q) t, hi, hj)) (λ t. omega (arith, not_below (rank c i p) (rank d j q) t, hi, hj))

pub not_less : (n : ℕ) → nat_lt n n ≡ false
not_less n = le-ltb n n (omega arith)

pub differ_inputs : (a b : InputSymbol) → (a.input ≡ b.input → ⊥) → same_entry a b ≡ false
differ_inputs a b h = ap (λ (t : Bool). t && (a.place == b.place)) (ne_eqb a.input b.input h)

module _ (run : Run) (os : Objects) (p : Program) (cut : AreCut run os) (stand : SymbolsStand run os p) (names : NamesStand run os p) (read : SymbolsRead run os p) where
  abbrev W : List Object
  W = whole_objects os

  abbrev M : List InputSymbol
  M = flat_map (symbols_of W) os.middle

  abbrev al : InputSymbol → InputSymbol
  al = alone_symbol run os

  abbrev js : InputSymbol → InputSymbol
  js = joined_symbol run os p

  abbrev j : Joining
  j = joining run os p

  abbrev pub Known : InputSymbol → Type 0
  Known e = Has (linked_symbols W) e

  -- ---- what stands

  pub alone_known : (e : InputSymbol) → Has M e → Has (all_symbols p) (al e)
  alone_known e has = subst (λ xs. Has xs (al e)) (sym (stand.program ∙ all_alone run os cut stand.found)) (map_has al M e has)

  -- A kept symbol of the run stands in the run alone.
  pub record StandsThere (e : InputSymbol) : Type 0 where
    pub inside : OfRun run os cut e
    pub test : stands p (al e) ≡ true
    pub there : Has (standing p) (al e)
    pub moves : j.move e ≡ js (al e)

  pub stands_there : (e : InputSymbol) → OfRun run os cut e → j.keep e ≡ true → StandsThere e
  stands_there e inside kept =
      let is = run_inside run os p cut stand e inside.from inside.to in
      let test : stands p (al e) ≡ true = sym is.0 ∙ kept in
      record { inside = inside; test = test; there = filter_has (stands p) (all_symbols p) (al e) (alone_known e inside.there) test; moves = is.1 }

  -- What holds of each that is kept, by where it is.
  pub by_region : (P : InputSymbol → InputSymbol → Type 0) → ((e : InputSymbol) → e.input ≤ run.first → P e e) → ((e : InputSymbol) → run.first + run.many < e.input → P e (later_symbol run os e))
      → ((e : InputSymbol) → StandsThere e → P e (js (al e))) → (e : InputSymbol) → Kept j Known e → P e (j.move e)
  by_region P front back inner e kept =
      ⊎_elim (λ le. subst (P e) (sym (not_after run os p cut stand e le).1) (front e le))
      (λ rest. ⊎_elim
      (λ (inside : OfRun run os cut e). let s = stands_there e inside kept.kept in subst (P e) (sym s.moves) (inner e s))
      (λ lt. subst (P e) (sym (not_before run os p cut stand e lt).1) (back e lt)) rest)
      (region run os cut e kept.symbol)

  -- ---- one by one

  -- A standing symbol, by whether it is open.
  abbrev as_symbol : InputSymbol → Bool → InputSymbol
  as_symbol x b = entry_in (later_objects run os) os.joined (number_by same_entry (standing p) x) (if b then open_symbol p x else record x.symbol { index = defined_index p x x.symbol.kind })

  pub by_open : (x : InputSymbol) (P : InputSymbol → Type 0) → (is_open p x ≡ true → P (as_symbol x true)) → (is_open p x ≡ false → P (as_symbol x false)) → P (js x)
  by_open x P opened closed = choose (is_open p x) refl
    where
      choose : (b : Bool) → is_open p x ≡ b → P (js x)
      choose true o = subst (λ b. P (as_symbol x b)) (sym o) (opened o)
      choose false o = subst (λ b. P (as_symbol x b)) (sym o) (closed o)

  pub name_kept : (e : InputSymbol) → Kept j Known e → name_of (j.move e) ≡ name_of e
  name_kept e kept =
      by_region (λ x y. name_of y ≡ name_of x) (λ x le. refl) (λ x lt. refl)
      (λ x s. by_open (al x) (λ y. name_of y ≡ name_of x) (λ o. refl) (λ o. refl)) e kept

  pub kind_kept : (e : InputSymbol) → Kept j Known e → (j.move e).symbol.kind ≡ e.symbol.kind
  kind_kept e kept =
      by_region (λ x y. y.symbol.kind ≡ x.symbol.kind) (λ x le. refl) (λ x lt. refl)
      (λ x s. by_open (al x) (λ y. y.symbol.kind ≡ x.symbol.kind) (λ o. refl) (λ o. refl)) e kept

  pub type_kept : (e : InputSymbol) → Kept j Known e → (j.move e).type ≡ e.type
  type_kept e kept =
      by_region (λ x y. y.type ≡ x.type) (λ x le. refl) (λ x lt. refl)
      (λ x s. all_has (λ (y : InputSymbol). (js y).type ≡ y.type) (standing p) read.type (al x) s.there) e kept

  pub entry_kept : (e : InputSymbol) → Kept j Known e → is_entry (j.move e) ≡ is_entry e
  entry_kept e kept =
      by_region (λ x y. is_entry y ≡ is_entry x) (λ x le. refl) (λ x lt. refl) (λ x s. stays_entry run os p cut stand (al x)) e kept

  closed_defines : (x : InputSymbol) → StandsThere x → is_open p (al x) ≡ false → (js (al x)).defines ≡ x.defines
  closed_defines x s o =
      all_has (λ (y : InputSymbol). stands p (al y) ≡ true → is_open p (al y) ≡ false → (js (al y)).defines ≡ y.defines) M names.closed x s.inside.there s.test o

  -- a symbol that is no entry isn't open
  not_open : (x : InputSymbol) → is_entry x ≡ false → is_open p (al x) ≡ false
  not_open x entry = ap (λ (b : Bool). b && is_none (object_winner p (name_of x))) entry

  pub own_kept : (e : InputSymbol) → Kept j Known e → is_entry e ≡ false → (j.move e).defines ≡ e.defines
  own_kept e kept =
      by_region (λ x y. is_entry x ≡ false → y.defines ≡ x.defines) (λ x le entry. refl) (λ x lt entry. refl)
      (λ x s entry. closed_defines x s (not_open x entry)) e kept

  -- An open symbol defines nothing.
  pub open_undefined_there : (x : InputSymbol) → is_open p x ≡ true → (js x).defines ≡ false
  open_undefined_there x o =
      ap (λ (b : Bool). (as_symbol x b).defines) o
      ∙ ap (λ (b : Bool). not b && in_kept_part (later_objects run os) os.joined (open_symbol p x) x.symbol.kind)
      (open_undefined x.symbol.flags (list_all (λ r. is_weak r.symbol) (name_references p (name_of x))) (list_any (λ r. is_explicit r.symbol) (name_references p (name_of x))))

  no_true : false ≡ true → ⊥
  no_true e = absurd cc

  -- one that defines there isn't open
  defines_closed : (x : InputSymbol) → (js x).defines ≡ true → is_open p x ≡ false
  defines_closed x d = choose (is_open p x) refl
    where
      choose : (b : Bool) → is_open p x ≡ b → b ≡ false
      choose true o = absurd (no_true (sym (open_undefined_there x o) ∙ d))
      choose false o = refl

  pub defines_kept : (e : InputSymbol) → Kept j Known e → (j.move e).defines ≡ true → e.defines ≡ true
  defines_kept e kept =
      by_region (λ x y. y.defines ≡ true → x.defines ≡ true) (λ x le d. d) (λ x lt d. d)
      (λ x s d. sym (closed_defines x s (defines_closed (al x) d)) ∙ d) e kept

  class_is : All (λ (e : InputSymbol). e.class ≡ (if is_weak e.symbol then 1 else 0)) M
  class_is = all_flat W (λ (e : InputSymbol). e.class ≡ (if is_weak e.symbol then 1 else 0)) (λ (o : Object). run.first < o.input) (λ o lt place s. refl) os.middle cut.from

  pub class_kept : (e : InputSymbol) → Kept j Known e → (j.move e).defines ≡ true → (j.move e).class ≡ e.class
  class_kept e kept =
      by_region (λ x y. y.defines ≡ true → y.class ≡ x.class) (λ x le d. refl) (λ x lt d. refl)
      (λ x s d. ap (λ (b : Bool). (as_symbol (al x) b).class) (defines_closed (al x) d) ∙ sym (all_has (λ (y : InputSymbol). y.class ≡ (if is_weak y.symbol then 1 else 0)) M class_is x s.inside.there)) e kept

  -- ---- two by two

  -- Places in the one object tell standing symbols apart.
  standing_apart : Apart same_entry (standing p)
  standing_apart = apart_filter same_entry (stands p) (all_symbols p) stand.apart

  places_tell : (x y : InputSymbol) → Has (standing p) x → Has (standing p) y → (number_by same_entry (standing p) x == number_by same_entry (standing p) y) ≡ same_entry x y
  places_tell x y hx hy = choose (same_entry x y) refl
    where
      choose : (b : Bool) → same_entry x y ≡ b → (number_by same_entry (standing p) x == number_by same_entry (standing p) y) ≡ b
      choose true same =
          let it : x ≡ y = apart_one (standing p) (apart_filter same_entry (stands p) (all_symbols p) stand.apart) x y hx hy same in
          eq-eqb (number_by same_entry (standing p) x) (number_by same_entry (standing p) y) (ap (number_by same_entry (standing p)) it)
      choose false other =
          let px = placed (same_entry x) (standing p) x hx (entry_itself x) in
          let py = placed (same_entry y) (standing p) y hy (entry_itself y) in
          ne_eqb (number_by same_entry (standing p) x) (number_by same_entry (standing p) y) (λ e.
          let ks : px.0 ≡ py.0 = sym (ap (λ o. unwrap_or o 0) px.1) ∙ (e ∙ ap (λ o. unwrap_or o 0) py.1) in
          let sx = stands_at (same_entry x) (standing p) px.0 px.1 in
          let sy = stands_at (same_entry y) (standing p) py.0 py.1 in
          let it : sx.item ≡ sy.item = some_is sx.item sy.item (sym sx.there ∙ (ap (slice_get (standing p)) ks ∙ sy.there)) in
          no_true (sym other ∙ entries_follow x sx.item y sx.passes (ap (λ z. same_entry z y) it ∙ (entries_turned sy.item y ∙ sy.passes))))

  pub inner_input : (x : InputSymbol) → (js x).input ≡ run.first + 1
  inner_input x = by_open x (λ y. y.input ≡ run.first + 1) (λ o. cut.place) (λ o. cut.place)

  pub inner_place : (x : InputSymbol) → (js x).place ≡ number_by same_entry (standing p) x
  inner_place x = by_open x (λ y. y.place ≡ number_by same_entry (standing p) x) (λ o. refl) (λ o. refl)

  lowered_input : (n a b : ℕ) → n ≤ a → n ≤ b → ((a - n) == (b - n)) ≡ (a == b)
  lowered_input n a b low low_too = ⊎_elim
      (λ same. eq-eqb (a - n) (b - n) (ap (λ k. k - n) same.1) ∙ sym same.0)
      (λ other. ne_eqb (a - n) (b - n) (λ e. other.1 (omega (arith, low, low_too, e))) ∙ sym other.0)
      (eqb_tells a b)

  later_input : (a b : ℕ) → run.first + run.many < a → run.first + run.many < b → (later run a == later run b) ≡ (a == b)
  later_input a b la lb =
      lowered_input run.many (a + 1) (b + 1) (omega (arith, la)) (omega (arith, lb))
      ∙ ⊎_elim (λ same. eq-eqb (a + 1) (b + 1) (ap (λ k. k + 1) same.1) ∙ sym same.0) (λ other. ne_eqb (a + 1) (b + 1) (λ e. other.1 (omega (arith, e))) ∙ sym other.0) (eqb_tells a b)

  pub apart_kept : (a b : InputSymbol) → Kept j Known a → Kept j Known b → same_entry (j.move a) (j.move b) ≡ same_entry a b
  apart_kept a b ka kb =
      by_region (λ x y. same_entry y (j.move b) ≡ same_entry x b)
      (λ x le. by_region (λ z w. same_entry x w ≡ same_entry x z)
      (λ z le_too. refl)
      (λ z lt. differ_inputs x (later_symbol run os z) (λ e. omega (arith, le, lt, e)) ∙ sym (differ_inputs x z (λ e. omega (arith, le, lt, e))))
      (λ z s. differ_inputs x (js (al z)) (λ e. omega (arith, le, inner_input (al z), e)) ∙ sym (differ_inputs x z (λ e. omega (arith, le, s.inside.from, e)))) b kb)
      (λ x lt. by_region (λ z w. same_entry (later_symbol run os x) w ≡ same_entry x z)
      (λ z le. differ_inputs (later_symbol run os x) z (λ e. omega (arith, le, lt, cut.some, e)) ∙ sym (differ_inputs x z (λ e. omega (arith, le, lt, e))))
      (λ z lt_too. ap (λ (t : Bool). t && (x.place == z.place)) (later_input x.input z.input lt lt_too))
      (λ z s. differ_inputs (later_symbol run os x) (js (al z)) (λ e. omega (arith, lt, cut.some, inner_input (al z), e)) ∙ sym (differ_inputs x z (λ e. omega (arith, lt, s.inside.to, e)))) b kb)
      (λ x s. by_region (λ z w. same_entry (js (al x)) w ≡ same_entry x z)
      (λ z le. differ_inputs (js (al x)) z (λ e. omega (arith, le, inner_input (al x), e)) ∙ sym (differ_inputs x z (λ e. omega (arith, le, s.inside.from, e))))
      (λ z lt. differ_inputs (js (al x)) (later_symbol run os z) (λ e. omega (arith, lt, cut.some, inner_input (al x), e)) ∙ sym (differ_inputs x z (λ e. omega (arith, lt, s.inside.to, e))))
      (λ z t.
      ap (λ (b : Bool). b && ((js (al x)).place == (js (al z)).place)) (eq-eqb (js (al x)).input (js (al z)).input (inner_input (al x) ∙ sym (inner_input (al z))))
      ∙ (ap (λ n. n == (js (al z)).place) (inner_place (al x)) ∙ (ap (λ n. number_by same_entry (standing p) (al x) == n) (inner_place (al z))
      ∙ (places_tell (al x) (al z) s.there t.there
      ∙ ap (λ (b : Bool). b && (x.place == z.place)) (lowered_input run.first x.input z.input (omega (arith, s.inside.from)) (omega (arith, t.inside.from))))))) b kb)
      a ka

  -- One entry stands for a name.
  pub one_stands : (x y : InputSymbol) → Has (standing p) x → Has (standing p) y → is_entry x ≡ true → is_entry y ≡ true → name_of x ≡ name_of y → x ≡ y
  one_stands x y hx hy ex ey name =
      let fx = has_filter (stands p) (all_symbols p) x hx in
      let fy = has_filter (stands p) (all_symbols p) y hy in
      let tx : stands_for_name p x (object_winner p (name_of y)) ≡ true = ap (λ n. stands_for_name p x (object_winner p n)) (sym name) ∙ (sym (entered x ex) ∙ fx.1) in
      let ty : stands_for_name p y (object_winner p (name_of y)) ≡ true = sym (entered y ey) ∙ fy.1 in
      apart_one (all_symbols p) stand.apart x y fx.0 fy.0 (by_winner (object_winner p (name_of y)) tx ty)
    where
      entered : (z : InputSymbol) → is_entry z ≡ true → stands p z ≡ stands_for_name p z (object_winner p (name_of z))
      entered z e = ap (λ (b : Bool). if b then stands_for_name p z (object_winner p (name_of z)) else (z.defines && not (is_kind Section z))) e

      by_that : (o : Option InputSymbol) → is_that x o ≡ true → is_that y o ≡ true → same_entry x y ≡ true
      by_that None tx ty = absurd (no_true tx)
      by_that (Some w) tx ty = entries_follow x w y tx (entries_turned w y ∙ ty)

      by_winner : (o : Option InputSymbol) → stands_for_name p x o ≡ true → stands_for_name p y o ≡ true → same_entry x y ≡ true
      by_winner (Some w) tx ty = entries_follow x w y tx (entries_turned w y ∙ ty)
      by_winner None tx ty =
          let a = and_parts (is_that x (least_in_object p (name_of x))) (is_referenced p (name_of x)) tx in
          let b = and_parts (is_that y (least_in_object p (name_of y))) (is_referenced p (name_of y)) ty in
          by_that (least_in_object p (name_of y)) (ap (λ n. is_that x (least_in_object p n)) (sym name) ∙ a.0) b.0
