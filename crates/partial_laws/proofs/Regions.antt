-- Each symbol of the whole link is before the run, of it or behind it, and a symbol is told by its input and place.
use Rattle.std.proofs.Common.{◌≡◌, ℕ, ◌+◌, ◌<◌, ◌≤◌, ◌==◌, Bool, true, ◌&&◌, List, [], ◌∷◌, ◌++◌, filter, inl, inr, ⊎_elim, sym, ap, subst, ◌∙◌, arith}
use Rattle.std.specs.Prelude.{◌⊎◌, flat_map, All}
use Rattle.std.proofs.lemmas.Bool.{and_parts, and_from, eq-eqb, ne_eqb, eqb-true}
use Rattle.std.proofs.lemmas.Bool.Decides.{eqb_tells}
use Rattle.std.proofs.lemmas.List.Concat.{flat_map-append}
use Rattle.list_places.specs.Has.{Has, Apart}
use Rattle.list_places.proofs.Lists.{has_either, has_left, has_right, has_filter, filter_has, all_has}
use Rattle.made_symbols.specs.declared.mode.Mode.TheVariants.{Plain}
use Rattle.made_symbols.specs.Made.{made}
use Rattle.name_rules.specs.object_file.declared.object.Object.{Object}
use Rattle.name_rules.specs.Entries.{InputSymbol, is_entry, entries, symbols_of, made_from, same_entry}
use Rattle.partial_laws.specs.Inputs.{Run, Objects, whole_objects, AreCut}
use Rattle.partial_laws.specs.Joined.{linked_symbols}
use Rattle.partial_laws.proofs.Lists.{both_all}
use Rattle.partial_laws.proofs.Joins.{all_flat, all_made}

-- ---- sameness

pub numbers_turned : (a b : ℕ) → (a == b) ≡ (b == a)
numbers_turned a b = ⊎_elim
    (λ same. same.0 ∙ sym (eq-eqb b a (sym same.1)))
    (λ other. other.0 ∙ sym (ne_eqb b a (λ e. other.1 (sym e))))
    (eqb_tells a b)

pub entries_turned : (a b : InputSymbol) → same_entry a b ≡ same_entry b a
entries_turned a b = ap (λ (t : Bool). t && (a.place == b.place)) (numbers_turned a.input b.input) ∙ ap (λ (t : Bool). (b.input == a.input) && t) (numbers_turned a.place b.place)

pub entries_follow : (a b c : InputSymbol) → same_entry a b ≡ true → same_entry b c ≡ true → same_entry a c ≡ true
entries_follow a b c ab bc =
    let x = and_parts (a.input == b.input) (a.place == b.place) ab in
    let y = and_parts (b.input == c.input) (b.place == c.place) bc in
    and_from (a.input == c.input) (a.place == c.place)
    (eq-eqb a.input c.input (eqb-true a.input b.input x.0 ∙ eqb-true b.input c.input y.0))
    (eq-eqb a.place c.place (eqb-true a.place b.place x.1 ∙ eqb-true b.place c.place y.1))

pub apart_one : (xs : List InputSymbol) → Apart same_entry xs → (a b : InputSymbol) → Has xs a → Has xs b → same_entry a b ≡ true → a ≡ b
apart_one [] apart a b ha hb same = absurd ha
apart_one (x ∷ xs) apart a b (inl p) (inl q) same = sym p ∙ q
apart_one (x ∷ xs) apart a b (inl p) (inr hb) same = absurd (apart.0 b hb (ap (λ y. same_entry y b) p ∙ same))
apart_one (x ∷ xs) apart a b (inr ha) (inl q) same = absurd (apart.0 a ha (ap (λ y. same_entry y a) q ∙ (entries_turned b a ∙ same)))
apart_one (x ∷ xs) apart a b (inr ha) (inr hb) same = apart_one xs apart.1 a b ha hb same

-- ---- regions

module _ (run : Run) (os : Objects) (cut : AreCut run os) where
  abbrev W : List Object
  W = whole_objects os

  pub record OfRun (e : InputSymbol) : Type 0 where
    pub there : Has (flat_map (symbols_of W) os.middle) e
    pub from : run.first < e.input
    pub to : e.input ≤ run.first + run.many

  abbrev pub Region : InputSymbol → Type 0
  Region e = (e.input ≤ run.first) ⊎ (OfRun e ⊎ (run.first + run.many < e.input))

  of_run_all : All (λ (e : InputSymbol). (run.first < e.input) × (e.input ≤ run.first + run.many)) (flat_map (symbols_of W) os.middle)
  of_run_all =
      all_flat W (λ (e : InputSymbol). (run.first < e.input) × (e.input ≤ run.first + run.many)) (λ (o : Object). (run.first < o.input) × (o.input ≤ run.first + run.many)) (λ o b place s. b) os.middle
      (both_all (λ (o : Object). run.first < o.input) (λ (o : Object). o.input ≤ run.first + run.many) os.middle cut.from cut.to)

  pub of_run : (e : InputSymbol) → Has (flat_map (symbols_of W) os.middle) e → OfRun e
  of_run e has = let b = all_has (λ (x : InputSymbol). (run.first < x.input) × (x.input ≤ run.first + run.many)) (flat_map (symbols_of W) os.middle) of_run_all e has in record { there = has; from = b.0; to = b.1 }

  pub region : (e : InputSymbol) → Has (linked_symbols W) e → Region e
  region e has =
      ⊎_elim (λ is. inl (all_has (λ (x : InputSymbol). x.input ≤ run.first) (made_from 0 (made Plain)) (all_made (λ (x : InputSymbol). x.input ≤ run.first) (λ place m. omega arith) 0 (made Plain)) e is))
      (λ is. ⊎_elim
      (λ before. inl (all_has (λ (x : InputSymbol). x.input ≤ run.first) (flat_map (symbols_of W) os.before)
      (all_flat W (λ (x : InputSymbol). x.input ≤ run.first) (λ (o : Object). o.input ≤ run.first) (λ o le place s. le) os.before cut.before) e before))
      (λ rest. ⊎_elim
      (λ middle. inr (inl (of_run e middle)))
      (λ behind. inr (inr (all_has (λ (x : InputSymbol). run.first + run.many < x.input) (flat_map (symbols_of W) os.behind)
      (all_flat W (λ (x : InputSymbol). run.first + run.many < x.input) (λ (o : Object). run.first + run.many < o.input) (λ o lt place s. lt) os.behind cut.behind) e behind)))
      (has_either (flat_map (symbols_of W) os.middle) (flat_map (symbols_of W) os.behind) e (subst (λ es. Has es e) (flat_map-append (symbols_of W) os.middle os.behind) rest)))
      (has_either (flat_map (symbols_of W) os.before) (flat_map (symbols_of W) (os.middle ++ os.behind)) e (subst (λ es. Has es e) (flat_map-append (symbols_of W) os.before (os.middle ++ os.behind)) is)))
      (has_either (made_from 0 (made Plain)) (flat_map (symbols_of W) W) e has)

  -- A symbol of the run is one of the whole link.
  pub run_linked : (e : InputSymbol) → Has (flat_map (symbols_of W) os.middle) e → Has (flat_map (symbols_of W) W) e
  run_linked e has =
      subst (λ es. Has es e) (sym (flat_map-append (symbols_of W) os.before (os.middle ++ os.behind) ∙ ap (λ es. flat_map (symbols_of W) os.before ++ es) (flat_map-append (symbols_of W) os.middle os.behind)))
      (has_right (flat_map (symbols_of W) os.before) (flat_map (symbols_of W) os.middle ++ flat_map (symbols_of W) os.behind) e (has_left (flat_map (symbols_of W) os.middle) (flat_map (symbols_of W) os.behind) e has))

-- ---- entries

pub entry_linked : (objects : List Object) (e : InputSymbol) → Has (entries Plain objects) e → Has (linked_symbols objects) e
unfolding entries
entry_linked objects e has =
    ⊎_elim (λ is. has_left (made_from 0 (made Plain)) (flat_map (symbols_of objects) objects) e is)
    (λ is. has_right (made_from 0 (made Plain)) (flat_map (symbols_of objects) objects) e (has_filter is_entry (flat_map (symbols_of objects) objects) e is).0)
    (has_either (made_from 0 (made Plain)) (filter is_entry (flat_map (symbols_of objects) objects)) e has)

pub linked_entry : (objects : List Object) (e : InputSymbol) → Has (flat_map (symbols_of objects) objects) e → is_entry e ≡ true → Has (entries Plain objects) e
unfolding entries
linked_entry objects e has entry =
    has_right (made_from 0 (made Plain)) (filter is_entry (flat_map (symbols_of objects) objects)) e (filter_has is_entry (flat_map (symbols_of objects) objects) e has entry)

pub made_linked : (objects : List Object) (e : InputSymbol) → Has (made_from 0 (made Plain)) e → Has (entries Plain objects) e
unfolding entries
made_linked objects e has = has_left (made_from 0 (made Plain)) (filter is_entry (flat_map (symbols_of objects) objects)) e has

-- An entry is the linker's or an object's.
pub entry_from : (objects : List Object) (e : InputSymbol) → Has (entries Plain objects) e → Has (made_from 0 (made Plain)) e ⊎ (Has (flat_map (symbols_of objects) objects) e × (is_entry e ≡ true))
unfolding entries
entry_from objects e has =
    ⊎_elim (λ is. inl is) (λ is. inr (has_filter is_entry (flat_map (symbols_of objects) objects) e is))
    (has_either (made_from 0 (made Plain)) (filter is_entry (flat_map (symbols_of objects) objects)) e has)
