-- Definitions of one name keep their order.
use Rattle.std.proofs.Common.{◌≡◌, ℕ, ◌+◌, ◌-◌, ◌*◌, ◌^◌, ◌<◌, ◌≤◌, ◌==◌, true, nat_lt, List, inl, inr, ⊎_elim, refl, sym, ap, subst, ◌∙◌, arith}
use Rattle.std.specs.Prelude.{◌⊎◌, flat_map, position}
use Rattle.std.proofs.lemmas.Bool.{and_from, eq-eqb}
use Rattle.list_places.specs.Has.{Has}
use Rattle.list_places.proofs.Lists.{all_has, has_either, position_below}
use Rattle.made_symbols.specs.declared.mode.Mode.TheVariants.{Plain}
use Rattle.made_symbols.specs.Made.{made}
use Rattle.name_rules.specs.object_file.declared.object.Object.{Object}
use Rattle.name_rules.specs.Entries.{InputSymbol, name_of, is_entry, entries, symbols_of, made_from, same_entry}
use Rattle.name_rules.specs.Meanings.{entry_rank}
use Rattle.index_layout.specs.Numbers.{number_by}
use Rattle.link_rules.specs.Program.{Program}
use Rattle.partial_rules.specs.Partial.{standing}
use Rattle.partial_laws.specs.Joining.{Joining, Kept}
use Rattle.partial_laws.specs.Inputs.{Run, Objects, whole_objects, AreCut}
use Rattle.partial_laws.specs.Standing.{alone_symbol, later_symbol, joining}
use Rattle.partial_laws.specs.Joined.{SymbolsStand, NamesStand, SymbolsRead}
use Rattle.partial_laws.proofs.Joins.{not_after, not_before}
use Rattle.partial_laws.proofs.Regions.{OfRun, region, made_linked, linked_entry}
use Rattle.partial_laws.proofs.Fields.{first_input, last_input, lowered_rank, not_less, Known, StandsThere, stands_there, class_kept, one_stands, inner_input, inner_place}

abbrev rank : ℕ → ℕ → ℕ → ℕ
rank c i s = c * 2 ^ 56 + i * 2 ^ 32 + s

-- A symbol's input and place in the whole link and in the later one, in bounds.
record Place : Type 0 where
  input : ℕ
  place : ℕ
  input_too : ℕ
  place_too : ℕ

record IsLow (x : Place) : Type 0 where
  input : x.input < 2 ^ 20
  place : x.place < 2 ^ 32
  input_too : x.input_too < 2 ^ 20
  place_too : x.place_too < 2 ^ 32

module _ (first many : ℕ) (some : 0 < many) where
  record Front (x : Place) : Type 0 where
    low : x.input ≤ first
    input : x.input_too ≡ x.input
    place : x.place_too ≡ x.place

  record Inner (x : Place) : Type 0 where
    from : first < x.input
    to : x.input ≤ first + many
    input : x.input_too ≡ first + 1

  record Back (x : Place) : Type 0 where
    high : first + many < x.input
    input : x.input_too ≡ (x.input + 1) - many
    place : x.place_too ≡ x.place

  abbrev Somewhere : Place → Type 0
  Somewhere x = Front x ⊎ (Inner x ⊎ Back x)

  abbrev Alike : ℕ → ℕ → Place → Place → Type 0
  Alike c d x y = nat_lt (rank c x.input_too x.place_too) (rank d y.input_too y.place_too) ≡ nat_lt (rank c x.input x.place) (rank d y.input y.place)

  rising : (c d : ℕ) (x y : Place) → IsLow x → IsLow y → x.input < y.input → x.input_too < y.input_too → Alike c d x y
  rising c d x y lx ly lt lt_too =
      first_input c d x.input_too y.input_too x.place_too y.place_too lt_too lx.input_too ly.input_too lx.place_too ly.place_too
      ∙ sym (first_input c d x.input y.input x.place y.place lt lx.input ly.input lx.place ly.place)

  falling : (c d : ℕ) (x y : Place) → IsLow x → IsLow y → y.input < x.input → y.input_too < x.input_too → Alike c d x y
  falling c d x y lx ly lt lt_too =
      last_input c d x.input_too y.input_too x.place_too y.place_too lt_too lx.input_too ly.input_too lx.place_too ly.place_too
      ∙ sym (last_input c d x.input y.input x.place y.place lt lx.input ly.input lx.place ly.place)

  -- but for two of the run
  compare : (c d : ℕ) (x y : Place) → IsLow x → IsLow y → Somewhere x → Somewhere y → (Inner x → Inner y → Alike c d x y) → Alike c d x y
  compare c d x y lx ly (inl a) (inl b) both =
      ap (λ i. nat_lt (rank c i x.place_too) (rank d y.input_too y.place_too)) a.input ∙ (ap (λ s. nat_lt (rank c x.input s) (rank d y.input_too y.place_too)) a.place
      ∙ (ap (λ i. nat_lt (rank c x.input x.place) (rank d i y.place_too)) b.input ∙ ap (λ s. nat_lt (rank c x.input x.place) (rank d y.input s)) b.place))
  compare c d x y lx ly (inl a) (inr (inl b)) both = rising c d x y lx ly (omega (arith, a.low, b.from)) (omega (arith, a.low, a.input, b.input))
  compare c d x y lx ly (inl a) (inr (inr b)) both = rising c d x y lx ly (omega (arith, a.low, b.high)) (omega (arith, a.low, a.input, b.input, b.high, some))
  compare c d x y lx ly (inr (inl a)) (inl b) both = falling c d x y lx ly (omega (arith, a.from, b.low)) (omega (arith, a.input, b.input, b.low))
  compare c d x y lx ly (inr (inl a)) (inr (inl b)) both = both a b
  compare c d x y lx ly (inr (inl a)) (inr (inr b)) both = rising c d x y lx ly (omega (arith, a.to, b.high)) (omega (arith, a.input, b.input, b.high, some))
  compare c d x y lx ly (inr (inr a)) (inl b) both = falling c d x y lx ly (omega (arith, a.high, b.low)) (omega (arith, a.input, b.input, a.high, b.low, some))
  compare c d x y lx ly (inr (inr a)) (inr (inl b)) both = falling c d x y lx ly (omega (arith, a.high, b.to)) (omega (arith, a.input, b.input, a.high, some))
  compare c d x y lx ly (inr (inr a)) (inr (inr b)) both =
      let ex : x.input_too ≡ x.input - (many - 1) = omega (arith, a.input, a.high, some) in
      let ey : y.input_too ≡ y.input - (many - 1) = omega (arith, b.input, b.high, some) in
      ap (λ i. nat_lt (rank c i x.place_too) (rank d y.input_too y.place_too)) ex ∙ (ap (λ s. nat_lt (rank c (x.input - (many - 1)) s) (rank d y.input_too y.place_too)) a.place
      ∙ (ap (λ i. nat_lt (rank c (x.input - (many - 1)) x.place) (rank d i y.place_too)) ey ∙ (ap (λ s. nat_lt (rank c (x.input - (many - 1)) x.place) (rank d (y.input - (many - 1)) s)) b.place
      ∙ lowered_rank (many - 1) c d x.input y.input x.place y.place (omega (arith, a.high)) (omega (arith, b.high)))))

module _ (run : Run) (os : Objects) (p : Program) (cut : AreCut run os) (stand : SymbolsStand run os p) (names : NamesStand run os p) (read : SymbolsRead run os p) where
  abbrev W : List Object
  W = whole_objects os

  abbrev al : InputSymbol → InputSymbol
  al = alone_symbol run os

  abbrev j : Joining
  j = joining run os p

  abbrev K : InputSymbol → Type 0
  K = Known run os p cut stand names read

  abbrev Low : InputSymbol → Type 0
  Low e = (e.class < 3) × (e.input < 2 ^ 20) × (e.place < 2 ^ 32)

  -- a known entry is one of the whole link
  pub known_entry : (e : InputSymbol) → K e → is_entry e ≡ true → Has (entries Plain W) e
  known_entry e known entry =
      ⊎_elim (λ is. made_linked W e is) (λ is. linked_entry W e is entry) (has_either (made_from 0 (made Plain)) (flat_map (symbols_of W) W) e known)

  abbrev place_of : InputSymbol → Place
  place_of e = record { input = e.input; place = e.place; input_too = (j.move e).input; place_too = (j.move e).place }

  record Placed (e : InputSymbol) : Type 0 where
    low : IsLow (place_of e)
    there : Somewhere run.first run.many cut.some (place_of e)

  placed : (e : InputSymbol) → Kept j K e → is_entry e ≡ true → Placed e
  placed e kept entry =
      ⊎_elim (λ le. front le)
      (λ rest. ⊎_elim (λ (inside : OfRun run os cut e). inner (stands_there run os p cut stand names read e inside kept.kept)) (λ lt. back lt) rest)
      (region run os cut e kept.symbol)
    where
      low : Low e
      low = all_has Low (entries Plain W) names.low e (known_entry e kept.symbol entry)

      front : e.input ≤ run.first → Placed e
      front le =
          let l = all_has Low (entries Plain W) names.low e (known_entry e kept.symbol entry) in
          let is : j.move e ≡ e = (not_after run os p cut stand e le).1 in
          record {
            low = record { input = l.1; place = l.2; input_too = subst (λ x. x.input < 2 ^ 20) (sym is) l.1; place_too = subst (λ x. x.place < 2 ^ 32) (sym is) l.2 };
            there = inl (record { low = le; input = ap (λ (x : InputSymbol). x.input) is; place = ap (λ (x : InputSymbol). x.place) is });
          }

      back : run.first + run.many < e.input → Placed e
      back lt =
          let l = all_has Low (entries Plain W) names.low e (known_entry e kept.symbol entry) in
          let is : j.move e ≡ later_symbol run os e = (not_before run os p cut stand e lt).1 in
          let lower : (e.input + 1) - run.many < 2 ^ 20 = omega (arith, l.1, cut.some) in
          record {
            low = record { input = l.1; place = l.2; input_too = subst (λ x. x.input < 2 ^ 20) (sym is) lower; place_too = subst (λ x. x.place < 2 ^ 32) (sym is) l.2 };
            there = inr (inr (record { high = lt; input = ap (λ (x : InputSymbol). x.input) is; place = ap (λ (x : InputSymbol). x.place) is }));
          }

      inner : StandsThere run os p cut stand names read e → Placed e
      inner s =
          let l = all_has Low (entries Plain W) names.low e (known_entry e kept.symbol entry) in
          let i : (j.move e).input ≡ run.first + 1 = ap (λ (x : InputSymbol). x.input) s.moves ∙ inner_input run os p cut stand names read (al e) in
          let at : (j.move e).place ≡ number_by same_entry (standing p) (al e) = ap (λ (x : InputSymbol). x.place) s.moves ∙ inner_place run os p cut stand names read (al e) in
          let few : number_by same_entry (standing p) (al e) < 2 ^ 32 = position_below (same_entry (al e)) (standing p) (position (same_entry (al e)) (standing p)) refl (2 ^ 32) read.few in
          record {
            low = record { input = l.1; place = l.2; input_too = omega (arith, i, l.1, s.inside.from); place_too = subst (λ n. n < 2 ^ 32) (sym at) few };
            there = inr (inl (record { from = s.inside.from; to = s.inside.to; input = i }));
          }

  pub order_kept : (one : (a b : InputSymbol) → K a → K b → same_entry a b ≡ true → a ≡ b) → (a b : InputSymbol) → Kept j K a → Kept j K b → is_entry a ≡ true → is_entry b ≡ true → name_of a ≡ name_of b
      → (j.move a).defines ≡ true → (j.move b).defines ≡ true
      → nat_lt (entry_rank (j.move a)) (entry_rank (j.move b)) ≡ nat_lt (entry_rank a) (entry_rank b)
  order_kept one a b ka kb ea eb name da db =
      let x : Placed a = placed a ka ea in
      let y : Placed b = placed b kb eb in
      ap (λ c. nat_lt (rank c (j.move a).input (j.move a).place) (entry_rank (j.move b))) (class_kept run os p cut stand names read a ka da)
      ∙ (ap (λ c. nat_lt (rank a.class (j.move a).input (j.move a).place) (rank c (j.move b).input (j.move b).place)) (class_kept run os p cut stand names read b kb db)
      ∙ compare run.first run.many cut.some a.class b.class (place_of a) (place_of b) x.low y.low x.there y.there (λ ia ib. same ia ib))
    where
      same : Inner run.first run.many cut.some (place_of a) → Inner run.first run.many cut.some (place_of b) → Alike run.first run.many cut.some a.class b.class (place_of a) (place_of b)
      same ia ib =
          let sa = stands_there run os p cut stand names read a (inside a ka ia) ka.kept in
          let sb = stands_there run os p cut stand names read b (inside b kb ib) kb.kept in
          let it : al a ≡ al b = one_stands run os p cut stand names read (al a) (al b) sa.there sb.there ea eb name in
          let inputs : a.input ≡ b.input = let e : a.input - run.first ≡ b.input - run.first = ap (λ (z : InputSymbol). z.input) it in omega (arith, e, ia.from, ib.from) in
          let places : a.place ≡ b.place = ap (λ (z : InputSymbol). z.place) it in
          let equal : a ≡ b = one a b ka.symbol kb.symbol (and_from (a.input == b.input) (a.place == b.place) (eq-eqb a.input b.input inputs) (eq-eqb a.place b.place places)) in
          subst (λ z. Alike run.first run.many cut.some a.class z.class (place_of a) (place_of z)) equal
          (not_less (rank a.class (j.move a).input (j.move a).place) ∙ sym (not_less (rank a.class a.input a.place)))
        where
          inside : (e : InputSymbol) → Kept j K e → Inner run.first run.many cut.some (place_of e) → OfRun run os cut e
          inside e kept i =
              ⊎_elim (λ le. absurd (omega (arith, le, i.from)))
              (λ rest. ⊎_elim (λ (o : OfRun run os cut e). o) (λ lt. absurd (omega (arith, lt, i.to))) rest) (region run os cut e kept.symbol)
