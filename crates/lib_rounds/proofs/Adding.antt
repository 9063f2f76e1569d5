-- Loading what a round adds, one after another.
use Rattle.std.proofs.Common.{◌≡◌, ◌≢◌, ℕ, zero, suc, ◌+◌, ◌-◌, ◌<◌, Bool, true, false, not, ◌||◌, cond, List, [], ◌∷◌, ◌++◌, length, map, Option, Some, None, Result, Ok, Err, set, refl, sym, ap, subst, ◌∙◌, arith, inl, inr, append_assoc, get_or}
use Rattle.std.specs.Prelude.{All, Contains, filter, slice_get, option_map, is_some, ◌==◌}
use Rattle.std.specs.List.{list_any}
use Rattle.std.specs.Map.{lookup, keys_of}
use Rattle.std.specs.Str.{bytes_eq}
use Rattle.std.specs.Ordering.{nat_cmp}
use Rattle.std.specs.BTreeMap.{BTreeMap, IsOrdered, keys}
use Rattle.std.specs.BTreeMap.Range.{IsLtBy}
use Rattle.std.proofs.lemmas.Bool.{cases_Bool, cases_eq, ne_eqb, eq-eqb}
use Rattle.std.proofs.lemmas.List.Elements.{All-nil, All-cons, All-head, All-tail}
use Rattle.std.proofs.lemmas.Option.{slice_get_within, get_or_from_slice_get, slice_get-map}
use Rattle.object_file.specs.wl_base.declared.fault.Fault.{Fault}
use Rattle.object_file.specs.wl_base.declared.fault.Fault.TheVariants.{IndexLies}
use Rattle.object_file.specs.wl_base.Choice.{first_some, has_name}
use Rattle.object_file.specs.declared.object.Object.{Object}
use Rattle.made_symbols.specs.declared.mode.Mode.{Mode}
use Rattle.made_symbols.specs.Made.{made}
use Rattle.round_rules.specs.declared.given.LibraryFile.{LibraryFile}
use Rattle.lib_rounds.specs.declared.adds.Wanted.{Wanted}
use Rattle.round_rules.specs.Rounds.{Candidate, Added, added_fault, added_fault_in, least_name, defined_names, is_defined, is_just}
use Rattle.lib_rounds.specs.Lean.{Entry}
use Rattle.lib_rounds.specs.Held.{Held, absent, loaded, loaded_objects, held_as, held_by, is_loaded_slot}
use Rattle.lib_rounds.specs.declared.error.RoundError.{RoundError}
use Rattle.lib_rounds.specs.declared.error.RoundError.TheVariants.{Refused, OutOfMemory}
use Rattle.lib_rounds.specs.State.{seen_entry, World, FailsBy, is_other, IsOffer, IsEntry, Hold, Defines, Enters, seen_entries, slot_at, by_slot, or_in, added_of, added_at, candidate_at, no_candidate}
use Rattle.lib_rounds.proofs.Rising.{numbers_rise, stands}
use Rattle.lib_rounds.proofs.Kept.{contains_head, contains_tail}
use Rattle.lib_rounds.proofs.Slots.{map_but_one, any_set}

-- ---- slots

as_unloaded : (b m : Bool) (r : Result Object Fault) → is_loaded_slot (held_as b m r) ≡ false → held_as b m r ≡ held_as false m r
as_unloaded false m r e = refl
as_unloaded true m (Ok o) e = absurd cc
as_unloaded true m (Err f) e = refl

pub slot_held : (all : List Candidate) (slots : List Held) (q : Candidate → Bool) (k : ℕ) (c : Candidate) → slots ≡ map (held_by q) all
    → slice_get all k ≡ Some c → slice_get slots k ≡ Some (held_by q c)
slot_held all slots q k c e at = ap (λ (hs : List Held). slice_get hs k) e ∙ slice_get-map (held_by q) all k ∙ ap (option_map (held_by q)) at

-- the slot of a candidate that isn't loaded
pub slot_unloaded : (all : List Candidate) (slots : List Held) (q : Candidate → Bool) (k : ℕ) (c : Candidate) → slots ≡ map (held_by q) all
    → slice_get all k ≡ Some c
    → is_loaded_slot (get_or slots k absent) ≡ false → slice_get slots k ≡ Some (held_as false c.is_member c.object)
slot_unloaded all slots q k c e at n =
    let is = slot_held all slots q k c e at in
    let value : get_or slots k absent ≡ held_by q c = get_or_from_slice_get slots k (held_by q c) absent is in
    is ∙ ap Some (as_unloaded (q c) c.is_member c.object (sym (ap is_loaded_slot value) ∙ n))

-- ---- what is kept

abbrev pub first_of : Entry → ℕ
first_of e = e.0

pub record Going (w : World) (libraries : List LibraryFile) (files : List (List ℕ)) (old_slots : List Held) (old : BTreeMap ℕ Wanted)
    (slots : List Held) (definers : List (List ℕ × ℕ)) (adds : BTreeMap ℕ Wanted) (new : List ℕ) : Type 0 where
  pub slots_are : (p : Candidate → Bool) → old_slots ≡ map (held_by p) w.all → slots ≡ map (held_by (or_in p new)) w.all
  pub defines : Defines w.mode slots definers
  pub ordered : IsOrdered nat_cmp adds
  pub entries : All (λ e. IsEntry w.all libraries files slots e.0 e.1) adds.entries
  pub faults : first_some (map added_fault (added_of w.all (seen_entries adds))) ≡ first_some (map added_fault (added_of w.all (seen_entries old)))
  pub inputs : new ++ map first_of (seen_entries adds) ≡ map first_of (seen_entries old)

-- ---- the lie of one

filter_same : {X : Type 0} (p q : X → Bool) (xs : List X) → ((x : X) → p x ≡ q x) → filter p xs ≡ filter q xs
filter_same p q [] h = refl
filter_same {X} p q (x ∷ xs) h = ap (λ (b : Bool). cond b (x ∷ filter p xs) (filter p xs)) (h x) ∙ ap (λ (ys : List X). cond (q x) (x ∷ ys) ys)
    (filter_same p q xs h)

other_is : (o : Object) (before after : List (List ℕ × ℕ)) (input : ℕ) → Enters o input before after → ((n : List ℕ) → is_just input (lookup
    (bytes_eq n) before) ≡ false)
    → (n : List ℕ) → is_other after input n ≡ not (has_name (defined_names o) n)
other_is o before after input enters fresh n =
    ap (λ (x : Option ℕ). not (is_just input x)) (enters n)
    ∙ elim (cases_Bool (has_name (defined_names o) n)) [
      | inl is ↦ rw (is, eq-eqb input input refl) refl
      | inr not_so ↦ rw (not_so, fresh n) refl
    ]

pub lie_is : (c : Candidate) (o : Object) (names : List (List ℕ)) (before after : List (List ℕ × ℕ)) (input : ℕ)
    → c.object ≡ Ok o → Enters o input before after → ((n : List ℕ) → is_just input (lookup (bytes_eq n) before) ≡ false) → c.input ≡ input
    → (found : Option (List ℕ)) → least_name (filter (is_other after input) names) ≡ found
    → added_fault (record { candidate = c; names = names }) ≡ option_map (IndexLies input) found
lie_is c o names before after input read enters fresh same found is =
    ap (added_fault_in (record { candidate = c; names = names })) read
    ∙ ap (λ (i : ℕ). option_map (IndexLies i) (least_name (filter (λ n. not (has_name (defined_names o) n)) names))) same
    ∙ ap (λ (ns : List (List ℕ)). option_map (IndexLies input) (least_name ns))
    (sym (filter_same (is_other after input) (λ n. not (has_name (defined_names o) n)) names (other_is o before after input enters fresh)))
    ∙ ap (option_map (IndexLies input)) is

pub fails_same : (e : RoundError) (a b : Option Fault) → a ≡ b → FailsBy e b → FailsBy e a
fails_same e a b same f = subst (λ (x : Option Fault). FailsBy e x) (sym same) f

-- ---- one more

or_in_more : (p : Candidate → Bool) (new : List ℕ) (i : ℕ) (c : Candidate) → or_in p (new ++ i ∷ []) c ≡ (or_in p new c || (i == c.input))
or_in_more p new i c = ap (λ (b : Bool). p c || b) (any_last (λ k. k == c.input) new i) ∙ or_last (p c) (list_any (λ k. k == c.input) new)
    (i == c.input)
  where
    or_last : (a b c : Bool) → (a || (b || c)) ≡ ((a || b) || c)
    or_last true b c = refl
    or_last false b c = refl

    any_last : (test : ℕ → Bool) (xs : List ℕ) (x : ℕ) → list_any test (xs ++ x ∷ []) ≡ (list_any test xs || test x)
    any_last test [] x = or_false (test x)
      where
        or_false : (b : Bool) → (b || false) ≡ b
        or_false true = refl
        or_false false = refl
    any_last test (y ∷ ys) x = ap (λ (b : Bool). test y || b) (any_last test ys x) ∙ or_last (test y) (list_any test ys) (test x)

or_true : (b : Bool) → (b || true) ≡ true
or_true true = refl
or_true false = refl

or_false : (b : Bool) → (b || false) ≡ b
or_false true = refl
or_false false = refl

module _ (all : List Candidate) (numbered : (i : ℕ) (c : Candidate) → slice_get all i ≡ Some c → c.input ≡ i + 1) where
  pub slots_more : (p : Candidate → Bool) (new : List ℕ) (slots after : List Held) (i : ℕ) (c : Candidate) (o : Object)
      → slots ≡ map (held_by (or_in p new)) all → slice_get all (i - 1) ≡ Some c → c.input ≡ i → c.object ≡ Ok o → after ≡ set slots (i - 1)
      (loaded o)
      → after ≡ map (held_by (or_in p (new ++ i ∷ []))) all
  slots_more p new slots after i c o are at same read is =
      let q = or_in p (new ++ i ∷ []) in
      let here : held_by q c ≡ loaded o = ap (λ (b : Bool). held_as b c.is_member c.object) (or_in_more p new i c ∙ ap (λ
      (b : Bool). or_in p new c || b) (eq-eqb i c.input (sym same)) ∙ or_true (or_in p new c)) ∙ ap (held_as true c.is_member) read in
      let others : (d : Candidate) → Contains all d → d.input ≢ c.input → held_by q d ≡ held_by (or_in p new) d
      = λ d m other. ap (λ (b : Bool). held_as b d.is_member d.object) (or_in_more p new i d ∙ ap (λ (b : Bool). or_in p new d || b)
      (ne_eqb i d.input (λ e. other (sym e ∙ sym same))) ∙ or_false (or_in p new d)) in
      is ∙ ap (λ (hs : List Held). set hs (i - 1) (loaded o)) are
      ∙ ap (λ (h : Held). set (map (held_by (or_in p new)) all) (i - 1) h) (sym here)
      ∙ sym (map_but_one (held_by (or_in p new)) (held_by q) all (i - 1) c (numbers_rise all numbered) at others)

-- the slots hold the candidates, whatever is loaded
by_held : (b m : Bool) (r : Result Object Fault) → held_as (is_loaded_slot (held_as b m r)) m r ≡ held_as b m r
by_held true m (Ok o) = refl
by_held false true (Ok o) = refl
by_held false false (Ok o) = refl
by_held b m (Err f) = refl

pub map_same_of : {Y : Type 0} (f g : Candidate → Y) (cs : List Candidate) → ((d : Candidate) → Contains cs d → g d ≡ f d) → map g cs ≡ map f cs
map_same_of f g [] h = refl
map_same_of {Y} f g (c ∷ cs) h = ap (λ (y : Y). y ∷ map g cs) (h c (contains_head c cs)) ∙ ap (λ (ys : List Y). f c ∷ ys) (map_same_of f g cs
    (λ d m. h d (contains_tail c cs d m)))

pub holds_by : (all : List Candidate) (numbered : (i : ℕ) (c : Candidate) → slice_get all i ≡ Some c → c.input ≡ i + 1) (slots : List Held)
    (q : Candidate → Bool) → slots ≡ map (held_by q) all → Hold all slots
holds_by all numbered slots q e =
    e ∙ sym (map_same_of (held_by q) (held_by (by_slot slots)) all (λ d m.
    let at = stands all numbered d m in
    let value : slot_at slots d.input ≡ held_by q d = get_or_from_slice_get slots (d.input - 1) (held_by q d) absent (slot_held all slots q
    (d.input - 1) d e at) in
    ap (λ (h : Held). held_as (is_loaded_slot h) d.is_member d.object) value ∙ by_held (q d) d.is_member d.object))

-- ---- definitions

slot_set : (slots : List Held) (k : ℕ) (o : Object) → k < length slots → get_or (set slots k (loaded o)) k absent ≡ loaded o
slot_set [] k o lt = absurd (omega (arith, lt))
slot_set (h ∷ hs) zero o lt = refl
slot_set (h ∷ hs) (suc k) o lt = slot_set hs k o (omega (arith, lt))

slot_other : (slots : List Held) (k j : ℕ) (h : Held) → j ≢ k → get_or (set slots k h) j absent ≡ get_or slots j absent
slot_other [] k j h other = refl
slot_other (g ∷ gs) zero zero h other = absurd (other refl)
slot_other (g ∷ gs) zero (suc j) h other = refl
slot_other (g ∷ gs) (suc k) zero h other = refl
slot_other (g ∷ gs) (suc k) (suc j) h other = slot_other gs k j h (λ e. other (ap suc e))

some_or : (b : Bool) (input : ℕ) (o : Option ℕ) → is_some (cond b (Some input) o) ≡ (is_some o || b)
some_or true input o = sym (or_true (is_some o))
some_or false input o = sym (or_false (is_some o))

or_all : (a b c : Bool) → ((a || b) || c) ≡ (a || (b || c))
or_all true b c = refl
or_all false b c = refl

pub defines_more : (mode : Mode) (slots after : List Held) (definers defined : List (List ℕ × ℕ)) (i : ℕ) (h : Held) (o : Object)
    → Defines mode slots definers → slice_get slots (i - 1) ≡ Some h → is_loaded_slot h ≡ false → after ≡ set slots (i - 1) (loaded o)
    → Enters o i definers defined
    → Defines mode after defined
defines_more mode slots after definers defined i h o d at unloaded is enters =
    let inside = slice_get_within slots (i - 1) h at in
    record {
      defined = λ name.
          ap (λ (x : Option ℕ). is_some x) (enters name) ∙ some_or (has_name (defined_names o) name) i (lookup (bytes_eq name) definers)
          ∙ ap (λ (b : Bool). b || has_name (defined_names o) name) (d.defined name)
          ∙ or_all (list_any (λ m. bytes_eq m.name name) (made mode)) (list_any (λ p. has_name (defined_names p) name) (loaded_objects slots))
          (has_name (defined_names o) name)
          ∙ ap (λ (b : Bool). list_any (λ m. bytes_eq m.name name) (made mode) || b) (sym (any_set (λ p. has_name (defined_names p) name) slots
          (i - 1) h o at unloaded))
          ∙ ap (λ (hs : List Held). is_defined mode (loaded_objects hs) name) (sym is);
      by_loaded = λ name k e positive.
          subst (λ (hs : List Held). is_loaded_slot (slot_at hs k) ≡ true) (sym is)
          (elim (cases_eq (k - 1) (i - 1)) [
            | inl same ↦ subst (λ (j : ℕ). is_loaded_slot (get_or (set slots (i - 1) (loaded o)) j absent) ≡ true) (sym same) (ap is_loaded_slot
                (slot_set slots (i - 1) o inside))
            | inr other ↦ ap is_loaded_slot (slot_other slots (i - 1) (k - 1) (loaded o) other)
                ∙ d.by_loaded name k (elim (cases_Bool (has_name (defined_names o) name)) [
                  | inl is_defined ↦ absurd (other (let s : Some i ≡ Some k = sym (enters name ∙ rw is_defined refl) ∙ e in let t : i ≡ k =
                      some_nat i k s in ap (λ (m : ℕ). m - 1) (sym t)))
                  | inr not_so ↦ (sym (enters name ∙ rw not_so refl) ∙ e)
                ]) positive
          ]);
    }
  where
    some_nat : (a b : ℕ) → (let x : Option ℕ = Some a in x ≡ Some b) → a ≡ b
    some_nat a b e = cc

-- ---- the loop

not_just : (x : Option ℕ) (i : ℕ) → ((k : ℕ) → x ≡ Some k → k ≡ i → ⊥) → is_just i x ≡ false
not_just None i h = refl
not_just (Some k) i h = ne_eqb k i (h k refl)

module _ (w : World) (numbered : (i : ℕ) (c : Candidate) → slice_get w.all i ≡ Some c → c.input ≡ i + 1) (libraries : List LibraryFile)
    (files : List (List ℕ))
    (old_slots : List Held) (hold : Hold w.all old_slots) (old : BTreeMap ℕ Wanted) (slots : List Held) (definers : List (List ℕ × ℕ))
    (adds : BTreeMap ℕ Wanted) (new : List ℕ)
    (going : Going w libraries files old_slots old slots definers adds new) (i : ℕ) (wanted : Wanted) (rest : List (ℕ × Wanted))
    (removal : adds.entries ≡ (i, wanted) ∷ rest) where
  abbrev IsOne : List Held → ℕ × Wanted → Type 0
  IsOne hs e = IsEntry w.all libraries files hs e.0 e.1

  here : IsEntry w.all libraries files slots i wanted
  here = All-head (IsOne slots) (i, wanted) rest (subst (λ (es : List (ℕ × Wanted)). All (IsOne slots) es) removal going.entries)

  later : All (IsOne slots) rest
  later = All-tail (IsOne slots) (i, wanted) rest (subst (λ (es : List (ℕ × Wanted)). All (IsOne slots) es) removal going.entries)

  candidate_is : candidate_at w.all wanted.offer.input ≡ here.c
  candidate_is = ap (λ (k : ℕ). get_or w.all (k - 1) no_candidate) here.input_is ∙ get_or_from_slice_get w.all (i - 1) here.c no_candidate here.at

  abbrev one : Added
  one = record { candidate = candidate_at w.all wanted.offer.input; names = wanted.names }

  held_now : slots ≡ map (held_by (or_in (by_slot old_slots) new)) w.all
  held_now = going.slots_are (by_slot old_slots) hold

  positive : 0 < wanted.offer.input
  positive = let n = numbered (i - 1) here.c here.at in let m = here.offer.input in omega (arith, n, m)

  slot_is : slice_get slots (i - 1) ≡ Some (held_as false here.c.is_member here.c.object)
  slot_is = slot_unloaded w.all slots (or_in (by_slot old_slots) new) (i - 1) here.c held_now here.at here.unloaded

  pub ready : IsOffer libraries files wanted.offer (candidate_at w.all wanted.offer.input)
      × (0 < wanted.offer.input)
      × (slice_get slots (wanted.offer.input - 1) ≡ Some (held_as false (candidate_at w.all wanted.offer.input).is_member
      (candidate_at w.all wanted.offer.input).object))
      × ((n : List ℕ) → is_just wanted.offer.input (lookup (bytes_eq n) definers) ≡ false)
  ready = (
    subst (λ (c : Candidate). IsOffer libraries files wanted.offer c) (sym candidate_is) here.offer,
    positive,
    ap (λ (k : ℕ). slice_get slots (k - 1)) here.input_is ∙ slot_is ∙ ap (λ (c : Candidate). Some (held_as false c.is_member c.object))
        (sym candidate_is),
    λ n. not_just (lookup (bytes_eq n) definers) wanted.offer.input (λ k e same.
        let loaded_so : is_loaded_slot (slot_at slots k) ≡ true = going.defines.by_loaded n k e (let p = positive in omega (arith, p, same)) in
        let not_so : is_loaded_slot (slot_at slots k) ≡ false = ap (λ (j : ℕ). is_loaded_slot (slot_at slots j)) (same ∙ here.input_is)
        ∙ here.unloaded in
        absurd cc),
  )

  added_first : added_of w.all (seen_entries adds) ≡ one ∷ added_of w.all (map seen_entry rest)
  added_first =
      ap (λ (es : List (ℕ × Wanted)). added_of w.all (map seen_entry es)) removal
      ∙ ap (λ (c : Option Candidate). added_at c wanted.names (added_of w.all (map seen_entry rest))) here.at
      ∙ ap (λ (c : Candidate). record { candidate = c; names = wanted.names } ∷ added_of w.all (map seen_entry rest)) (sym candidate_is)

  pub fails_first : (e : RoundError) → FailsBy e (added_fault one) → FailsBy e (first_some (map added_fault (added_of w.all (seen_entries old))))
  fails_first e f = fails_at (added_fault one) e f (ap (λ (as' : List Added). first_some (map added_fault as')) (sym added_first) ∙ going.faults)
    where
      fails_at : (o : Option Fault) (e : RoundError) → FailsBy e o → first_some (o ∷ map added_fault (added_of w.all
          (map seen_entry rest))) ≡ first_some (map added_fault (added_of w.all (seen_entries old)))
          → FailsBy e (first_some (map added_fault (added_of w.all (seen_entries old))))
      fails_at o OutOfMemory f is = tt
      fails_at o (Refused fault) f is = sym is ∙ rw f refl

  module _ (after : List Held) (defined : List (List ℕ × ℕ)) (o : Object) (left : BTreeMap ℕ Wanted) (entries_are : left.entries ≡ rest)
      (ordered : IsOrdered nat_cmp left) (above : All (IsLtBy nat_cmp i) (keys left))
      (no_fault : added_fault one ≡ None) (read : (candidate_at w.all wanted.offer.input).object ≡ Ok o) (set_is : after ≡ set slots
      (wanted.offer.input - 1) (loaded o)) (enters : Enters o wanted.offer.input definers defined) where
    after_is : after ≡ set slots (i - 1) (loaded o)
    after_is = set_is ∙ ap (λ (k : ℕ). set slots (k - 1) (loaded o)) here.input_is

    read_here : here.c.object ≡ Ok o
    read_here = ap (λ (c : Candidate). c.object) (sym candidate_is) ∙ read

    input_here : here.c.input ≡ i
    input_here = here.offer.input ∙ here.input_is

    unloaded_here : is_loaded_slot (held_as false here.c.is_member here.c.object) ≡ false
    unloaded_here = none_loaded here.c.is_member here.c.object
      where
        none_loaded : (m : Bool) (r : Result Object Fault) → is_loaded_slot (held_as false m r) ≡ false
        none_loaded true (Ok p) = refl
        none_loaded false (Ok p) = refl
        none_loaded m (Err f) = refl

    still : (e : ℕ × Wanted) → i < e.0 → IsOne slots e → IsOne after e
    still e lt h = record {
      c = h.c;
      at = h.at;
      input_is = h.input_is;
      offer = h.offer;
      unloaded = ap (λ (hs : List Held). is_loaded_slot (slot_at hs e.0)) after_is
          ∙ ap is_loaded_slot (slot_other slots (i - 1) (e.0 - 1) (loaded o) (λ same. let p = positive in let q = here.input_is in omega
          (arith, p, q, lt, same))) ∙ h.unloaded;
      some = h.some;
    }

    is_above : (k : ℕ) → IsLtBy nat_cmp i k → i < k
    is_above k h = grind (arith, h)

    all_still : (es : List (ℕ × Wanted)) → All (IsLtBy nat_cmp i) (keys_of es) → All (IsOne slots) es → All (IsOne after) es
    all_still [] lt h = All-nil (IsOne after)
    all_still (e ∷ es) lt h =
        All-cons (IsOne after) e es (still e (is_above e.0 (All-head (IsLtBy nat_cmp i) e.0 (keys_of es) lt)) (All-head (IsOne slots) e es h))
        (all_still es (All-tail (IsLtBy nat_cmp i) e.0 (keys_of es) lt) (All-tail (IsOne slots) e es h))

    pub goes_on : Going w libraries files old_slots old after defined left (new ++ i ∷ [])
    goes_on = record {
      slots_are = λ p e. slots_more w.all numbered p new slots after i here.c o (going.slots_are p e) here.at input_here read_here after_is;
      defines = defines_more w.mode slots after definers defined i (held_as false here.c.is_member here.c.object) o going.defines slot_is
          unloaded_here after_is
          (subst (λ (k : ℕ). Enters o k definers defined) here.input_is enters);
      ordered = ordered;
      entries = all_still left.entries above (subst (λ (es : List (ℕ × Wanted)). All (IsOne slots) es) (sym entries_are) later);
      faults = ap (λ (es : List (ℕ × Wanted)). first_some (map added_fault (added_of w.all (map seen_entry es)))) entries_are
          ∙ (let s : first_some (added_fault one ∷ map added_fault (added_of w.all (map seen_entry rest))) ≡ first_some (map added_fault
          (added_of w.all (map seen_entry rest))) = rw no_fault refl in sym s)
          ∙ ap (λ (as' : List Added). first_some (map added_fault as')) (sym added_first) ∙ going.faults;
      inputs = append_assoc new (i ∷ []) (map first_of (seen_entries left))
          ∙ ap (λ (es : List (ℕ × Wanted)). new ++ i ∷ map first_of (map seen_entry es)) entries_are
          ∙ ap (λ (es : List (ℕ × Wanted)). new ++ map first_of (map seen_entry es)) (sym removal)
          ∙ going.inputs;
    }
