-- Names that are looked at one after another.
use Rattle.std.proofs.Common.{◌≡◌, ℕ, zero, suc, ◌+◌, ◌-◌, ◌<◌, Bool, true, false, not, cond, List, [], ◌∷◌, ◌++◌, length, take, map, Option, Some, None, Result, Ok, Err, refl, sym, ap, subst, ◌∙◌, arith, inl, inr, append_assoc, add-one, get_or}
use Rattle.std.specs.Prelude.{◌⊎◌, ◌≤◌, OnOk, All, Contains, filter_map, flat_map, slice_get, option_map, is_some, unwrap_or}
use Rattle.std.specs.Map.{lookup, keys_of}
use Rattle.std.specs.Str.{bytes_eq}
use Rattle.std.specs.Ordering.{nat_cmp}
use Rattle.std.specs.Cmp.{nat_cmp_total}
use Rattle.std.specs.BTreeMap.{BTreeMap, IsOrdered, get, is_at}
use Rattle.std.proofs.lemmas.List.{append-nil, length-append}
use Rattle.std.proofs.lemmas.List.Elements.{All-nil, All-contains}
use Rattle.std.proofs.lemmas.Option.{get_or_from_slice_get, slice_get_within}
use Rattle.std.proofs.lemmas.Map.Views.{All-found}
use Rattle.std.proofs.lemmas.Map.Entries.{place_from_lookup}
use Rattle.std.proofs.lemmas.Bool.{cases_Bool}
use Rattle.object_file.specs.wl_base.declared.fault.Fault.{Fault}
use Rattle.object_file.specs.linking_section.declared.symbol.Symbol.{Symbol}
use Rattle.object_file.specs.linking_section.Flags.{is_strong_reference}
use Rattle.object_file.specs.declared.object.Object.{Object}
use Rattle.round_rules.specs.declared.given.LibraryFile.{LibraryFile}
use Rattle.lib_rounds.specs.declared.offer.Offer.{Offer}
use Rattle.lib_rounds.specs.declared.adds.Wanted.{Wanted}
use Rattle.round_rules.specs.Rounds.{Candidate, is_loaded, offering}
use Rattle.round_rules.specs.RoundLaws.{inputs_in, Rise}
use Rattle.lib_rounds.specs.Lean.{Entry, HoldNames}
use Rattle.lib_rounds.specs.Held.{Held, absent, held_as, held_by, is_loaded_slot, name_if}
use Rattle.lib_rounds.specs.State.{Hold, by_slot, World, Knows, Defines, IsOffer, IsEntry, Shows, Looked, Looks, is_undefined, pushed, seen_entry, seen_entries, slot_at}
use Rattle.lib_rounds.proofs.Names.{index_is, names_in, named_at, named_first, nameless_first}
use Rattle.lib_rounds.proofs.Kept.{all_from}
use Rattle.lib_rounds.proofs.Rising.{numbers_rise, at_place}
use Rattle.std.specs.List.Sorted.{IsStrictlySortedBy}
use Rattle.lib_rounds.proofs.Groups.{same_key}
use Rattle.lib_rounds.proofs.Adding.{slot_held}
use Rattle.lib_rounds.proofs.Looking.{hold_start, hold_unwanted, hold_none, hold_loaded, hold_push}

-- the names that some symbols refer to strongly
abbrev pub strong_part : List Symbol → List (List ℕ)
strong_part ss = names_in is_strong_reference ss

take_step : {X : Type 0} (k : ℕ) (y : X) (ys : List X) → take (suc k + 1) (y ∷ ys) ≡ y ∷ take (k + 1) ys
take_step {X} k y ys = ap (λ m. take m (y ∷ ys)) (add-one (suc k)) ∙ ap (λ m. let zs : List X = y ∷ take m ys in zs) (sym (add-one k))

pub take_next : {X : Type 0} (xs : List X) (i : ℕ) (x : X) → slice_get xs i ≡ Some x → take (i + 1) xs ≡ take i xs ++ x ∷ []
take_next [] i x e = absurd cc
take_next (y ∷ ys) zero x e = let s : y ≡ x = cc in rw s refl
take_next {X} (y ∷ ys) (suc i) x e = take_step i y ys ∙ ap (λ (zs : List X). y ∷ zs) (take_next ys i x e)

one_named : (test : Symbol → Bool) (s : Symbol) (xs ys : List Symbol) (name : List ℕ) (o : Option (List ℕ)) → name_if test s ≡ o
    → names_in test xs ≡ names_in test ys ++ name ∷ []
    → names_in test (s ∷ xs) ≡ names_in test (s ∷ ys) ++ name ∷ []
one_named test s xs ys name None e h = nameless_first test s xs e ∙ h ∙ ap (λ (ns : List (List ℕ)). ns ++ name ∷ []) (sym
    (nameless_first test s ys e))
one_named test s xs ys name (Some m) e h = named_first test s xs m e ∙ ap (λ (ns : List (List ℕ)). m ∷ ns) h ∙ ap (λ (ns : List
    (List ℕ)). ns ++ name ∷ []) (sym (named_first test s ys m e))

one_same : (test : Symbol → Bool) (s : Symbol) (xs ys : List Symbol) (o : Option (List ℕ)) → name_if test s ≡ o
    → names_in test xs ≡ names_in test ys → names_in test (s ∷ xs) ≡ names_in test (s ∷ ys)
one_same test s xs ys None e h = nameless_first test s xs e ∙ h ∙ sym (nameless_first test s ys e)
one_same test s xs ys (Some m) e h = named_first test s xs m e ∙ ap (λ (ns : List (List ℕ)). m ∷ ns) h ∙ sym (named_first test s ys m e)

pub names_taken : (test : Symbol → Bool) (ss : List Symbol) (at : ℕ) (name : List ℕ) → named_at test ss at ≡ Some name → names_in test (take
    (at + 1) ss) ≡ names_in test (take at ss) ++ name ∷ []
names_taken test [] at name e = absurd cc
names_taken test (s ∷ ss) zero name e = named_first test s [] name e
names_taken test (s ∷ ss) (suc at) name e =
    ap (λ (xs : List Symbol). names_in test xs) (take_step at s ss) ∙ one_named test s (take (at + 1) ss) (take at ss) name (name_if test s) refl
    (names_taken test ss at name e)

pub names_untaken : (test : Symbol → Bool) (ss : List Symbol) (at : ℕ) → named_at test ss at ≡ None → at < length ss → names_in test (take
    (at + 1) ss) ≡ names_in test (take at ss)
names_untaken test [] at e lt = absurd (omega (arith, lt))
names_untaken test (s ∷ ss) zero e lt = nameless_first test s [] e
names_untaken test (s ∷ ss) (suc at) e lt =
    ap (λ (xs : List Symbol). names_in test xs) (take_step at s ss) ∙ one_same test s (take (at + 1) ss) (take at ss) (name_if test s) refl
    (names_untaken test ss at e (omega (arith, lt)))

-- ---- one after another

module _ (w : World) (libraries : List LibraryFile) (files : List (List ℕ)) (slots : List Held) where
  pub looks_none : (adds : BTreeMap ℕ Wanted) → Looks w libraries files slots [] adds adds
  looks_none adds inputs names shows h = subst (λ (ns : List (List ℕ)). Looked w libraries files slots inputs ns adds) (sym (append-nil names)) h

  pub looks_more : (xs ys : List (List ℕ)) (a b c : BTreeMap ℕ Wanted) → Looks w libraries files slots xs a b
      → Looks w libraries files slots ys b c → Looks w libraries files slots (xs ++ ys) a c
  looks_more xs ys a b c f g inputs names shows h =
      subst (λ (ns : List (List ℕ)). Looked w libraries files slots inputs ns c) (append_assoc names xs ys) (g inputs (names ++ xs) shows
      (f inputs names shows h))

  pub looks_same : (xs ys : List (List ℕ)) (a b : BTreeMap ℕ Wanted) → xs ≡ ys → Looks w libraries files slots xs a b
      → Looks w libraries files slots ys a b
  looks_same xs ys a b e f = subst (λ (ns : List (List ℕ)). Looks w libraries files slots ns a b) e f

  pub looks_empty : (adds : BTreeMap ℕ Wanted) (inputs : List ℕ) → adds.entries ≡ [] → IsOrdered nat_cmp adds
      → Looked w libraries files slots inputs [] adds
  looks_empty adds inputs none ordered = record {
    holds = subst (λ (es : List Entry). HoldNames w.all [] inputs es) (sym (ap (λ (es : List (ℕ × Wanted)). map seen_entry es) none))
        (hold_start w.all (is_undefined w.mode slots) inputs);
    ordered = ordered;
    entries = subst (λ (es : List (ℕ × Wanted)). All (λ e. IsEntry w.all libraries files slots e.0 e.1) es) (sym none) (All-nil (λ (e : ℕ
        × Wanted). IsEntry w.all libraries files slots e.0 e.1));
  }

-- ---- a map, and its entries as they are seen

seen_lookup : (test : ℕ → Bool) (es : List (ℕ × Wanted)) → lookup test (map seen_entry es) ≡ option_map (λ x. x.names) (lookup test es)
seen_lookup test [] = refl
seen_lookup test (e ∷ es) = elim (cases_Bool (test e.0)) [ inl is ↦ rw is refl | inr not_so ↦ rw not_so (seen_lookup test es) ]

seen_keys : (es : List (ℕ × Wanted)) → keys_of (map seen_entry es) ≡ keys_of es
seen_keys [] = refl
seen_keys (e ∷ es) = ap (λ (ks : List ℕ). e.0 ∷ ks) (seen_keys es)

pushed_names : (o : Option Wanted) (offer : Offer) (name : List ℕ) → (pushed o offer name).names ≡ unwrap_or (option_map
    (λ x. x.names) o) [] ++ name ∷ []
pushed_names None offer name = refl
pushed_names (Some x) offer name = refl

-- a slot that isn't loaded
unloaded_by : (b m : Bool) (r : Result Object Fault) (o : Object) → r ≡ Ok o → is_loaded_slot (held_as b m r) ≡ false → b ≡ false
unloaded_by false m r o read e = refl
unloaded_by true m r o read e = let f : is_loaded_slot (held_as true m r) ≡ true = rw read refl in absurd cc

loaded_by : (b m : Bool) (r : Result Object Fault) → is_loaded_slot (held_as b m r) ≡ true → b ≡ true
loaded_by true m r e = refl
loaded_by false true (Ok o) e = absurd cc
loaded_by false false (Ok o) e = absurd cc
loaded_by false m (Err f) e = absurd cc

module _ (w : World) (libraries : List LibraryFile) (files : List (List ℕ)) (lazies definers : List (List ℕ × ℕ)) (slots : List Held)
    (knows : Knows w.all libraries files lazies)
    (defines : Defines w.mode slots definers) (name : List ℕ) where
  abbrev LooksAt : BTreeMap ℕ Wanted → BTreeMap ℕ Wanted → Type 0
  LooksAt = Looks w libraries files slots (name ∷ [])

  abbrev undefined_by : List ℕ → Bool
  undefined_by = is_undefined w.mode slots

  rise : Rise (inputs_in w.all)
  rise = numbers_rise w.all knows.numbered

  pub at_defined : (adds : BTreeMap ℕ Wanted) → is_some (lookup (bytes_eq name) definers) ≡ true → LooksAt adds adds
  at_defined adds e inputs names shows h = record {
    holds = hold_unwanted w.all undefined_by inputs names name (seen_entries adds) h.holds (ap (λ (b : Bool). not b) (sym (defines.defined name)
        ∙ e));
    ordered = h.ordered;
    entries = h.entries;
  }

  pub at_none : (adds : BTreeMap ℕ Wanted) → offering w.all name ≡ None → LooksAt adds adds
  at_none adds e inputs names shows h = record {
    holds = hold_none w.all undefined_by inputs names name (seen_entries adds) h.holds e;
    ordered = h.ordered;
    entries = h.entries;
  }

  module _ (offer : Offer) (found : (c : Candidate) × (slice_get w.all (offer.input - 1) ≡ Some c) × IsOffer libraries files offer c)
      (offers : offering w.all name ≡ Some offer.input) where
    abbrev c : Candidate
    c = found.0

    same : c.input ≡ offer.input
    same = found.2.input

    offers_it : offering w.all name ≡ Some c.input
    offers_it = offers ∙ ap (λ (i : ℕ). let o : Option ℕ = Some i in o) (sym same)

    in_all : Contains w.all c
    in_all = at_place w.all (offer.input - 1) c found.1

    pub at_slot : Hold w.all slots → (h : Held) → h ≡ get_or slots (offer.input - 1) h → slot_at slots offer.input ≡ h
    at_slot hold h e =
        let inside = slice_get_within slots (offer.input - 1) (held_by (by_slot slots) c) (slot_held w.all slots (by_slot slots)
        (offer.input - 1) c hold found.1) in
        get_or_from_slice_get slots (offer.input - 1) h absent (index_is slots (offer.input - 1) h inside e)

    slot_is : (inputs : List ℕ) → Shows w.all slots inputs → slot_at slots offer.input ≡ held_by (is_loaded inputs) c
    slot_is inputs shows = get_or_from_slice_get slots (offer.input - 1) (held_by (is_loaded inputs) c) absent (slot_held w.all slots
        (is_loaded inputs) (offer.input - 1) c shows.slots_are found.1)

    pub at_loaded : (adds : BTreeMap ℕ Wanted) → is_loaded_slot (slot_at slots offer.input) ≡ true → LooksAt adds adds
    at_loaded adds e inputs names shows h = record {
      holds = hold_loaded w.all undefined_by inputs rise names name (seen_entries adds) h.holds c in_all offers_it
          (loaded_by (is_loaded inputs c) c.is_member c.object (sym (ap is_loaded_slot (slot_is inputs shows)) ∙ e));
      ordered = h.ordered;
      entries = h.entries;
    }

    found_in : (es : List (ℕ × Wanted)) (k : ℕ) (x : Wanted) → lookup (is_at (nat_cmp k)) es ≡ Some x → Contains es (k, x)
    found_in es k x e =
        let p = place_from_lookup (is_at (nat_cmp k)) es x e in
        subst (λ (j : ℕ). Contains es (j, x)) (sym (same_key k p.1 p.3)) (at_place es p.0 (p.1, x) p.2)

    module _ (adds new : BTreeMap ℕ Wanted) (undefined : is_some (lookup (bytes_eq name) definers) ≡ false) (unloaded : is_loaded_slot
        (slot_at slots offer.input) ≡ false) (ordered : IsOrdered nat_cmp new)
        (law : (q : ℕ) → get nat_cmp new q ≡ cond (is_at (nat_cmp offer.input) q) (Some (pushed (get nat_cmp adds offer.input) offer name))
        (get nat_cmp adds q)) where
      abbrev IsOne : ℕ × Wanted → Type 0
      IsOne e = IsEntry w.all libraries files slots e.0 e.1

      pushed_entry : All IsOne adds.entries → (o : Option Wanted) → get nat_cmp adds offer.input ≡ o → IsOne (offer.input, pushed o offer name)
      pushed_entry all_are None e = record { c = c; at = found.1; input_is = refl; offer = found.2; unloaded = unloaded; some = omega arith }
      pushed_entry all_are (Some x) e =
          let h = All-contains IsOne adds.entries (offer.input, x) all_are (found_in adds.entries offer.input x e) in
          record {
            c = h.c;
            at = h.at;
            input_is = h.input_is;
            offer = h.offer;
            unloaded = h.unloaded;
            some = let l = length-append x.names
                (name ∷ []) in omega (arith, l);
          }

      chosen : (b : Bool) (o : Option Wanted) (x y : Wanted) → (let z : Option Wanted = cond b (Some x) o in z ≡ Some y) → ((b ≡ true) ×
          (x ≡ y)) ⊎ ((b ≡ false) × (o ≡ Some y))
      chosen true o x y e = inl (refl, cc)
      chosen false o x y e = inr (refl, e)

      entry_is : All IsOne adds.entries → (e : ℕ × Wanted) → Contains new.entries e → IsOne e
      entry_is all_are e m =
          let g : get nat_cmp new e.0 ≡ Some e.1 = All-contains (λ (x : ℕ × Wanted). get nat_cmp new x.0 ≡ Some x.1) new.entries e
          (All-found nat_cmp_total new ordered) m in
          elim (chosen (is_at (nat_cmp offer.input) e.0) (get nat_cmp adds e.0) (pushed (get nat_cmp adds offer.input) offer name) e.1 (sym
          (law e.0) ∙ g)) [
            | inl p ↦ subst (λ (x : Wanted). IsOne (e.0, x)) p.1 (subst (λ (k : ℕ). IsOne (k, pushed (get nat_cmp adds offer.input) offer name))
                (same_key offer.input e.0 p.0) (pushed_entry all_are (get nat_cmp adds offer.input) refl))
            | inr p ↦ All-contains IsOne adds.entries (e.0, e.1) all_are (found_in adds.entries e.0 e.1 p.1)
          ]

      seen_law : (q : ℕ) → lookup (is_at (nat_cmp q)) (seen_entries new) ≡ cond (is_at (nat_cmp offer.input) q) (Some (unwrap_or (lookup (is_at
          (nat_cmp offer.input)) (seen_entries adds)) [] ++ name ∷ [])) (lookup (is_at (nat_cmp q)) (seen_entries adds))
      seen_law q =
          seen_lookup (is_at (nat_cmp q)) new.entries ∙ ap (option_map (λ (x : Wanted). x.names)) (law q)
          ∙ elim (cases_Bool (is_at (nat_cmp offer.input) q)) [
            | inl is ↦ rw is (ap (λ (ns : List (List ℕ)). let o : Option (List (List ℕ)) = Some ns in o) (pushed_names
                (get nat_cmp adds offer.input) offer name
                ∙ ap (λ (o : Option (List (List ℕ))). unwrap_or o [] ++ name ∷ []) (sym (seen_lookup (is_at (nat_cmp offer.input)) adds.entries))))
            | inr other ↦ rw other (sym (seen_lookup (is_at (nat_cmp q)) adds.entries))
          ]

      not_in : (inputs : List ℕ) → Shows w.all slots inputs → is_loaded inputs c ≡ false
      not_in inputs shows = elim (cases_Bool (is_loaded inputs c)) [
        | inl is ↦ let r = shows.read c in_all is in unloaded_by (is_loaded inputs c) c.is_member c.object r.0 r.1 (sym (ap is_loaded_slot
            (slot_is inputs shows)) ∙ unloaded)
        | inr not_so ↦ not_so
      ]

      pub at_pushed : LooksAt adds new
      at_pushed inputs names shows h = record {
        holds = hold_push w.all undefined_by inputs rise names name (seen_entries adds) (seen_entries new) h.holds (ap (λ (b : Bool). not b) (sym
            (defines.defined name) ∙ undefined)) c in_all offers_it
            (not_in inputs shows) (subst (λ (ks : List ℕ). IsStrictlySortedBy nat_cmp ks) (sym (seen_keys new.entries)) ordered)
            (subst (λ (i : ℕ). (q : ℕ) → lookup (is_at (nat_cmp q)) (seen_entries new) ≡ cond (is_at (nat_cmp i) q) (Some (unwrap_or (lookup
            (is_at (nat_cmp i)) (seen_entries adds)) [] ++ name ∷ [])) (lookup (is_at (nat_cmp q)) (seen_entries adds))) (sym same) seen_law);
        ordered = ordered;
        entries = all_from IsOne new.entries (entry_is h.entries);
      }

pub on_both : (A B C : Type 0) {T E : Type 0} (r : Result T E) → OnOk r A → OnOk r B → (A → B → C) → OnOk r C
on_both A B C (Ok x) a b f = f a b
on_both A B C (Err e) a b f = tt

-- ---- lists so far

pub taken : {X : Type 0} (xs : List X) (i : ℕ) → length xs ≤ i → take i xs ≡ xs
taken [] zero le = refl
taken [] (suc i) le = refl
taken (x ∷ xs) zero le = absurd (omega (arith, le))
taken {X} (x ∷ xs) (suc i) le = ap (λ (ys : List X). x ∷ ys) (taken xs i (omega (arith, le)))

module _ {X Y : Type 0} (f : X → Option Y) (g : Y → List (List ℕ)) where
  abbrev pub got : List X → List (List ℕ)
  got xs = flat_map g (filter_map f xs)

  abbrev got_one : Option Y → List (List ℕ)
  got_one None = []
  got_one (Some y) = g y

  one_got : (x : X) (xs : List X) (o : Option Y) → f x ≡ o → got (x ∷ xs) ≡ got_one o ++ got xs
  one_got x xs None e = rw e refl
  one_got x xs (Some y) e = rw e refl

  pub got_more : (xs : List X) (x : X) (y : Y) → f x ≡ Some y → got (xs ++ x ∷ []) ≡ got xs ++ g y
  got_more [] x y e = one_got x [] (Some y) e ∙ append-nil (g y)
  got_more (z ∷ xs) x y e =
      one_got z (xs ++ x ∷ []) (f z) refl ∙ ap (λ (ns : List (List ℕ)). got_one (f z) ++ ns) (got_more xs x y e)
      ∙ sym (append_assoc (got_one (f z)) (got xs) (g y)) ∙ ap (λ (ns : List (List ℕ)). ns ++ g y) (sym (one_got z xs (f z) refl))

  pub got_none : (xs : List X) (x : X) → f x ≡ None → got (xs ++ x ∷ []) ≡ got xs
  got_none [] x e = one_got x [] None e
  got_none (z ∷ xs) x e =
      one_got z (xs ++ x ∷ []) (f z) refl ∙ ap (λ (ns : List (List ℕ)). got_one (f z) ++ ns) (got_none xs x e) ∙ sym (one_got z xs (f z) refl)
