-- What a round adds, as a map from inputs to names.
use Rattle.std.proofs.Common.{◌≡◌, ℕ, zero, suc, ◌<◌, Bool, true, false, not, List, [], ◌∷◌, length, Option, Some, None, refl, sym, ap, subst, ◌∙◌, arith}
use Rattle.std.specs.Prelude.{Contains, map, filter, ◌==◌, slice_get, unwrap_or}
use Rattle.std.specs.Cmp.{nat_cmp_total, eq_by_cmp_equiv}
use Rattle.std.specs.Ordering.{nat_cmp}
use Rattle.std.specs.BTreeMap.{is_at}
use Rattle.std.specs.Map.{lookup, keys_of}
use Rattle.std.specs.List.Sorted.{IsStrictlySortedBy}
use Rattle.std.proofs.lemmas.Bool.{and_parts, and_from, ne_eqb}
use Rattle.std.proofs.lemmas.List.Elements.{All-contains}
use Rattle.std.proofs.lemmas.Map.Keys.{below_from_sorted, IsDistinct-from_sorted}
use Rattle.std.proofs.lemmas.Map.Entries.{place_from_lookup, lookup_from_place}
use Rattle.round_rules.specs.Rounds.{Candidate, Added, is_loaded, names_for, added_with, adds_any, round_adds}
use Rattle.round_rules.specs.RoundLaws.{inputs_in, Rise}
use Rattle.lib_rounds.specs.Lean.{Entry, AreAdds, IsFresh, HoldNames}
use Rattle.lib_rounds.proofs.Kept.{contains_map, was_mapped, was_kept, kept, pairs_kept}
use Rattle.lib_rounds.proofs.Picked.{is_picked, adds_are}
use Rattle.lib_rounds.proofs.Rising.{rising_same, place_of, at_place}

not_true : (b : Bool) → not b ≡ true → b ≡ false
not_true true e = absurd cc
not_true false e = refl

some_names : (names : List (List ℕ)) → 0 < length names → not (length names == 0) ≡ true
some_names names l = rw (ne_eqb (length names) 0 (λ e. omega (arith, l, e))) refl

names_there : (names : List (List ℕ)) → not (length names == 0) ≡ true → 0 < length names
names_there [] e = absurd cc
names_there (n ∷ ns) e = omega arith

was_some : (o : Option (List (List ℕ))) (names : List (List ℕ)) → unwrap_or o [] ≡ names → 0 < length names → o ≡ Some names
was_some None [] e l = absurd (omega (arith, l))
was_some None (n ∷ ns) e l = absurd cc
was_some (Some ms) names e l = ap Some e

pub same_key : (a b : ℕ) → is_at (nat_cmp a) b ≡ true → a ≡ b
same_key a b e = grind (arith, e)

pub at_same : (es : List Entry) (e : Entry) → IsStrictlySortedBy nat_cmp (keys_of es) → Contains es e → lookup (is_at (nat_cmp e.0)) es ≡ Some e.1
at_same es e sorted h =
    let p = place_of es e h in
    lookup_from_place (eq_by_cmp_equiv nat_cmp_total) es p.0 e.0 e.1 (IsDistinct-from_sorted nat_cmp (keys_of es) sorted) p.1

at_key : (es : List Entry) (i k n : ℕ) (names : List (List ℕ)) → n ≡ k → slice_get es i ≡ Some (k, names) → Contains es (n, names)
at_key es i k n names same e = at_place es i (n, names) (e ∙ ap (λ (m : ℕ). let x : Option Entry = Some (m, names) in x) (sym same))

pub found_at : (es : List Entry) (n : ℕ) (names : List (List ℕ)) → lookup (is_at (nat_cmp n)) es ≡ Some names → Contains es (n, names)
found_at es n names e = let p = place_from_lookup (is_at (nat_cmp n)) es names e in at_key es p.0 p.1 n names (same_key n p.1 p.3) p.2

one_entry : (k n : ℕ) (names others : List (List ℕ)) → k ≡ n → names ≡ others → (let x : Entry = (k, names) in x ≡ (n, others))
one_entry k n names others p q = rw (p, q) refl

module _ (all : List Candidate) (wanted : List (List ℕ)) (loaded : List ℕ) where
  abbrev pub entry_for : Candidate → Entry
  entry_for c = (c.input, names_for all wanted c)

  module _ (es : List Entry) (h : HoldNames all wanted loaded es) where
    entry_picked : (e : Entry) → Contains es e → Contains (map entry_for (filter (is_picked all wanted loaded) all)) e
    entry_picked e m =
        let f = All-contains (IsFresh all wanted loaded) es e h.fresh m in
        let here : lookup (is_at (nat_cmp f.0.input)) es ≡ Some e.1 =
        subst (λ (k : ℕ). lookup (is_at (nat_cmp k)) es ≡ Some e.1) (sym f.2) (at_same es e h.sorted m) in
        let same : e.1 ≡ names_for all wanted f.0 = ap (λ (o : Option (List (List ℕ))). unwrap_or o []) (sym here) ∙ h.names f.0 f.1 f.3 in
        let long : 0 < length (names_for all wanted f.0) =
        subst (λ (ns : List (List ℕ)). 0 < length ns) same (All-contains (λ (x : Entry). 0 < length x.1) es e h.filled m) in
        let any : is_picked all wanted loaded f.0 ≡ true =
        and_from (not (is_loaded loaded f.0)) (adds_any (added_with all wanted f.0)) (rw f.3 refl) (some_names (names_for all wanted f.0) long) in
        let there = contains_map entry_for (filter (is_picked all wanted loaded) all) f.0 (kept (is_picked all wanted loaded) all f.0 f.1 any) in
        subst (λ (x : Entry). Contains (map entry_for (filter (is_picked all wanted loaded) all)) x)
        (one_entry f.0.input e.0 (names_for all wanted f.0) e.1 f.2 (sym same)) there

    picked_entry : (e : Entry) → Contains (map entry_for (filter (is_picked all wanted loaded) all)) e → Contains es e
    picked_entry e m =
        let r = was_mapped entry_for (filter (is_picked all wanted loaded) all) e m in
        let k = was_kept (is_picked all wanted loaded) all r.0 r.1 in
        let both = and_parts (not (is_loaded loaded r.0)) (adds_any (added_with all wanted r.0)) k.1 in
        let long = names_there (names_for all wanted r.0) both.1 in
        let found =
        was_some (lookup (is_at (nat_cmp r.0.input)) es) (names_for all wanted r.0)
        (h.names r.0 k.0 (not_true (is_loaded loaded r.0) both.0)) long in
        subst (λ (x : Entry). Contains es x) r.2 (found_at es r.0.input (names_for all wanted r.0) found)

    entries_are : Rise (inputs_in all) → es ≡ map entry_for (filter (is_picked all wanted loaded) all)
    entries_are rise =
        rising_same (λ (e : Entry). e.0) es (map entry_for (filter (is_picked all wanted loaded) all))
        (λ i j d lt within. below_from_sorted (keys_of es) i j d h.sorted lt within)
        (subst Rise (sym (keys_for (filter (is_picked all wanted loaded) all)))
        (pairs_kept (λ (a b : ℕ). a < b) (λ (c : Candidate). c.input) (is_picked all wanted loaded) all rise))
        entry_picked picked_entry
      where
        keys_for : (cs : List Candidate) → map (λ (e : Entry). e.0) (map entry_for cs) ≡ inputs_in cs
        keys_for [] = refl
        keys_for (c ∷ cs) = ap (λ (ks : List ℕ). c.input ∷ ks) (keys_for cs)

  are_adds : (cs : List Candidate) → AreAdds (map entry_for cs) (map (added_with all wanted) cs)
  are_adds [] = tt
  are_adds (c ∷ cs) = (refl, refl, are_adds cs)

  -- so they are what the round adds
  pub entries_add : Rise (inputs_in all) → (es : List Entry) → HoldNames all wanted loaded es → AreAdds es (round_adds all wanted loaded)
  entries_add rise es h =
      subst (λ (xs : List Entry). AreAdds xs (round_adds all wanted loaded)) (sym (entries_are es h rise))
      (subst (AreAdds (map entry_for (filter (is_picked all wanted loaded) all))) (sym (adds_are all wanted loaded))
      (are_adds (filter (is_picked all wanted loaded) all)))

  -- what is added is of a candidate that isn't loaded
  pub adds_fresh : (a : Added) → Contains (round_adds all wanted loaded) a
      → Contains all a.candidate × (is_loaded loaded a.candidate ≡ false) × (a ≡ added_with all wanted a.candidate)
  adds_fresh a m =
      let p =
      was_mapped (added_with all wanted) (filter (is_picked all wanted loaded) all) a
      (subst (λ (xs : List Added). Contains xs a) (adds_are all wanted loaded) m) in
      let k = was_kept (is_picked all wanted loaded) all p.0 p.1 in
      let both = and_parts (not (is_loaded loaded p.0)) (adds_any (added_with all wanted p.0)) k.1 in
      let one : p.0 ≡ a.candidate = ap (λ (x : Added). x.candidate) p.2 in
      let fresh = not_true (is_loaded loaded p.0) both.0 in
      (subst (Contains all) one k.0, subst (λ (c : Candidate). is_loaded loaded c ≡ false) one fresh, sym p.2 ∙ ap (added_with all wanted) one)

-- an entry and what it adds stand at one place
pub adds_at : (es : List Entry) (adds : List Added) → AreAdds es adds → (i : ℕ) (e : Entry) → slice_get es i ≡ Some e
    → (a : Added) × (slice_get adds i ≡ Some a) × (e.0 ≡ a.candidate.input) × (e.1 ≡ a.names)
adds_at [] [] h i e at = absurd cc
adds_at [] (a ∷ as') h i e at = absurd h
adds_at (x ∷ es) [] h i e at = absurd h
adds_at (x ∷ es) (a ∷ as') h zero e at =
    let one : x ≡ e = cc in
    (a, refl, subst (λ (y : Entry). y.0 ≡ a.candidate.input) one h.0, subst (λ (y : Entry). y.1 ≡ a.names) one h.1)
adds_at (x ∷ es) (a ∷ as') h (suc i) e at = adds_at es as' h.2 i e at

pub as_many : (es : List Entry) (adds : List Added) → AreAdds es adds → length es ≡ length adds
as_many [] [] h = refl
as_many [] (a ∷ as') h = absurd h
as_many (e ∷ es) [] h = absurd h
as_many (e ∷ es) (a ∷ as') h = ap suc (as_many es as' h.2)
