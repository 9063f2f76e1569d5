-- One round, by the slots.
use Rattle.std.proofs.Common.{◌≡◌, ℕ, ◌+◌, ◌-◌, Bool, true, not, List, [], ◌∷◌, ◌++◌, map, Option, Some, None, Result, Ok, Err, refl, sym, ap, subst, ◌∙◌, inl, inr}
use Rattle.std.specs.Prelude.{Contains, filter, filter_map, flat_map, slice_get, option_map}
use Rattle.std.specs.List.{cons_option}
use Rattle.std.proofs.lemmas.Bool.{cases_Bool, or_cases}
use Rattle.std.proofs.lemmas.Option.{slice_get-map, get_or_from_slice_get}
use Rattle.object_file.specs.wl_base.Choice.{first_some}
use Rattle.object_file.specs.wl_base.declared.fault.Fault.{Fault}
use Rattle.object_file.specs.declared.object.Object.{Object}
use Rattle.round_rules.specs.Rounds.{Candidate, Added, fault_in, object_in, object_fault, is_loaded, strong_names, added_with, round_adds, added_fault, added_fault_in, inputs_of, at_once, is_always_read, always_read_fault}
use Rattle.round_rules.specs.RoundLaws.{inputs_in, Rise}
use Rattle.lib_rounds.specs.Lean.{new_objects, names_of}
use Rattle.lib_rounds.specs.Held.{absent, object_held, held_as, held_by}
use Rattle.lib_rounds.specs.State.{slot_at, names_at}
use Rattle.lib_rounds.proofs.Kept.{contains_head, contains_tail, contains_none, contains_cases, contains_map, kept}
use Rattle.lib_rounds.proofs.Picked.{is_picked, loaded_after, adds_are}
use Rattle.lib_rounds.proofs.Rising.{stands}
use Rattle.lib_rounds.proofs.AtOnce.{loaded_at_once}

-- ---- slots of loaded candidates

-- each loaded candidate has an object
abbrev pub AreRead : List Candidate → List ℕ → Type 0
AreRead all loaded = (c : Candidate) → Contains all c → is_loaded loaded c ≡ true → (o : Object) × (c.object ≡ Ok o)

module _ (all : List Candidate) (numbered : (i : ℕ) (c : Candidate) → slice_get all i ≡ Some c → c.input ≡ i + 1) where
  pub its_slot : (q : Candidate → Bool) (c : Candidate) → Contains all c → slot_at (map (held_by q) all) c.input ≡ held_by q c
  its_slot q c h =
      get_or_from_slice_get (map (held_by q) all) (c.input - 1) (held_by q c) absent
      (slice_get-map (held_by q) all (c.input - 1) ∙ ap (option_map (held_by q)) (stands all numbered c h))

  object_of_slot : (m : Bool) (r : Result Object Fault) → object_held (held_as true m r) ≡ object_in r
  object_of_slot m (Ok o) = refl
  object_of_slot m (Err fault) = refl

  -- the names of what was added, by the slots of its inputs
  pub names_now : (q : Candidate → Bool) (adds : List Added) → ((a : Added) → Contains adds a → Contains all a.candidate × (q a.candidate ≡ true))
      → names_at (map (held_by q) all) (inputs_of adds) ≡ names_of adds
  names_now q adds h = ap (λ (os : List Object). flat_map strong_names os) (objects_now adds h)
    where
      objects_now : (adds : List Added) → ((a : Added) → Contains adds a → Contains all a.candidate × (q a.candidate ≡ true))
          → filter_map (λ i. object_held (slot_at (map (held_by q) all) i)) (inputs_of adds) ≡ new_objects adds
      objects_now [] h = refl
      objects_now (a ∷ as') h =
          let first = h a (contains_head a as') in
          let held : object_held (slot_at (map (held_by q) all) a.candidate.input) ≡ object_in a.candidate.object
          = ap object_held (its_slot q a.candidate first.0)
          ∙ ap (λ (b : Bool). object_held (held_as b a.candidate.is_member a.candidate.object)) first.1
          ∙ object_of_slot a.candidate.is_member a.candidate.object in
          ap (λ (o : Option Object). cons_option o (filter_map (λ i. object_held (slot_at (map (held_by q) all) i)) (inputs_of as'))) held
          ∙ ap (λ (os : List Object). cons_option (object_in a.candidate.object) os) (objects_now as' (λ b m. h b (contains_tail a as' b m)))

-- ---- no fault, so all are read

both_none : (o : Option Fault) (os : List (Option Fault)) → first_some (o ∷ os) ≡ None → (o ≡ None) × (first_some os ≡ None)
both_none None os e = (refl, e)
both_none (Some fault) os e = absurd cc

none_first : {X : Type 0} (f : X → Option Fault) (xs : List X) → first_some (map f xs) ≡ None → (x : X) → Contains xs x → f x ≡ None
none_first f [] e x h = absurd (contains_none x h)
none_first {X} f (y ∷ ys) e x h =
    let r = both_none (f y) (map f ys) e in
    elim (contains_cases y ys x h) [ inl same ↦ subst (λ (z : X). f z ≡ None) same r.0 | inr later ↦ none_first f ys r.1 x later ]

read_of : (r : Result Object Fault) → fault_in r ≡ None → (o : Object) × (r ≡ Ok o)
read_of (Ok o) e = (o, refl)
read_of (Err fault) e = absurd cc

read_added : (a : Added) (r : Result Object Fault) → added_fault_in a r ≡ None → (o : Object) × (r ≡ Ok o)
read_added a (Ok o) e = (o, refl)
read_added a (Err fault) e = absurd cc

pub read_at_once : (all : List Candidate) → Rise (inputs_in all) → always_read_fault all ≡ None → AreRead all (at_once all)
read_at_once all rise e c h is =
    let need : not c.by_need ≡ true = sym (loaded_at_once all rise c h) ∙ is in
    let one : is_always_read c ≡ true = elim (cases_Bool c.is_member) [ inl m ↦ rw m need | inr m ↦ rw m refl ] in
    read_of c.object (none_first object_fault (filter is_always_read all) e c (kept is_always_read all c h one))

pub read_after : (all : List Candidate) → Rise (inputs_in all) → (wanted : List (List ℕ)) (loaded : List ℕ) → AreRead all loaded
    → first_some (map added_fault (round_adds all wanted loaded)) ≡ None
    → AreRead all (loaded ++ inputs_of (round_adds all wanted loaded))
read_after all rise wanted loaded read e c h is =
    elim (or_cases (is_loaded loaded c) (is_picked all wanted loaded c) (sym (loaded_after all wanted loaded rise c h) ∙ is)) [
      | inl before ↦ read c h before
      | inr added ↦
          let there =
          contains_map (added_with all wanted) (filter (is_picked all wanted loaded) all) c (kept (is_picked all wanted loaded) all c h added) in
          let here : Contains (round_adds all wanted loaded) (added_with all wanted c) =
          subst (λ (as' : List Added). Contains as' (added_with all wanted c)) (sym (adds_are all wanted loaded)) there in
          read_added (added_with all wanted c) c.object (none_first added_fault (round_adds all wanted loaded) e (added_with all wanted c) here)
    ]
