-- A round, and all of them.
use Rattle.std.proofs.Common.{◌≡◌, ℕ, zero, suc, ◌+◌, ◌-◌, ◌<◌, Bool, true, false, not, ◌||◌, List, [], ◌∷◌, ◌++◌, length, map, Option, Some, None, Result, Ok, Err, refl, sym, ap, subst, ◌∙◌, arith}
use Rattle.std.specs.Prelude.{All, Contains, filter, slice_get, ◌==◌}
use Rattle.std.specs.List.{list_any}
use Rattle.std.specs.Ordering.{nat_cmp}
use Rattle.std.specs.BTreeMap.{BTreeMap, IsOrdered}
use Rattle.std.proofs.lemmas.List.{length-map}
use Rattle.std.proofs.lemmas.List.Folds.{list_any-append}
use Rattle.std.proofs.lemmas.List.Elements.{Contains-append_right}
use Rattle.std.proofs.lemmas.Option.{get_or_from_slice_get}
use Rattle.object_file.specs.wl_base.Choice.{first_some, unless, ◌>>=◌}
use Rattle.object_file.specs.wl_base.declared.fault.Fault.{Fault}
use Rattle.made_symbols.specs.declared.mode.Mode.{Mode}
use Rattle.object_file.specs.declared.object.Object.{Object}
use Rattle.round_rules.specs.declared.given.LibraryFile.{LibraryFile}
use Rattle.lib_rounds.specs.declared.error.RoundError.{RoundError}
use Rattle.lib_rounds.specs.declared.error.RoundError.TheVariants.{Refused, OutOfMemory}
use Rattle.lib_rounds.specs.declared.adds.Wanted.{Wanted}
use Rattle.round_rules.specs.Rounds.{Candidate, Added, is_loaded, objects_of, is_defined, round_adds, added_fault, inputs_of, at_once, always_read_fault, load, rounds}
use Rattle.round_rules.specs.RoundLaws.{inputs_in, Rise}
use Rattle.lib_rounds.specs.Lean.{Entry, AreAdds, names_of, first_names, lean_adds, lean, lean_on}
use Rattle.lib_rounds.specs.Held.{Held, absent, held_as, held_by, is_loaded_slot, loaded_objects}
use Rattle.lib_rounds.specs.State.{World, Hold, Defines, Shows, IsEntry, Looked, AddedAll, RoundDone, Fails, FailsBy, by_slot, or_in, slot_at, is_undefined, seen_entries, seen_entry, names_at, added_of, added_at}
use Rattle.lib_rounds.proofs.Kept.{contains_any, contains_head, contains_tail, contains_map}
use Rattle.lib_rounds.proofs.Picked.{picked}
use Rattle.lib_rounds.proofs.Rising.{numbers_rise, stands}
use Rattle.lib_rounds.proofs.Slots.{loaded_are}
use Rattle.lib_rounds.proofs.Groups.{entries_add, adds_fresh}
use Rattle.lib_rounds.proofs.Adding.{slot_held, holds_by, map_same_of, first_of}
use Rattle.lib_rounds.proofs.Lean.{lean_is}
use Rattle.lib_rounds.proofs.Steps.{names_now, read_after}

-- ---- the entries of a round

pub added_is : (all : List Candidate) (numbered : (i : ℕ) (c : Candidate) → slice_get all i ≡ Some c → c.input ≡ i + 1) (es : List Entry)
    (as' : List Added)
    → AreAdds es as' → ((a : Added) → Contains as' a → Contains all a.candidate) → added_of all es ≡ as'
added_is all numbered [] [] h of_all = refl
added_is all numbered [] (a ∷ as') h of_all = absurd h
added_is all numbered (e ∷ es) [] h of_all = absurd h
added_is all numbered (e ∷ es) (a ∷ as') h of_all =
    ap (λ (i : ℕ). added_at (slice_get all (i - 1)) e.1 (added_of all es)) h.0
    ∙ ap (λ (c : Option Candidate). added_at c e.1 (added_of all es)) (stands all numbered a.candidate (of_all a (contains_head a as')))
    ∙ ap (λ (ns : List (List ℕ)). record { candidate = a.candidate; names = ns } ∷ added_of all es) h.1
    ∙ ap (λ (bs : List Added). a ∷ bs) (added_is all numbered es as' h.2 (λ b m. of_all b (contains_tail a as' b m)))

pub inputs_are : (es : List Entry) (as' : List Added) → AreAdds es as' → map first_of es ≡ inputs_of as'
inputs_are [] [] h = refl
inputs_are [] (a ∷ as') h = absurd h
inputs_are (e ∷ es) [] h = absurd h
inputs_are (e ∷ es) (a ∷ as') h = ap (λ (i : ℕ). i ∷ map first_of es) h.0 ∙ ap (λ (is : List ℕ). a.candidate.input ∷ is) (inputs_are es as' h.2)

-- ---- what the slots show

loaded_by : (b m : Bool) (r : Result Object Fault) → is_loaded_slot (held_as b m r) ≡ true → (o : Object) × (r ≡ Ok o)
loaded_by true m (Ok o) e = (o, refl)
loaded_by true m (Err f) e = absurd cc
loaded_by false true (Ok o) e = absurd cc
loaded_by false false (Ok o) e = absurd cc
loaded_by false m (Err f) e = absurd cc

module _ (w : World) (numbered : (i : ℕ) (c : Candidate) → slice_get w.all i ≡ Some c → c.input ≡ i + 1) where
  rise : Rise (inputs_in w.all)
  rise = numbers_rise w.all numbered

  pub shows_itself : (slots : List Held) → Hold w.all slots → Shows w.all slots (inputs_in (filter (by_slot slots) w.all))
  shows_itself slots hold = record {
    slots_are = hold ∙ sym (map_same_of (held_by (by_slot slots)) (held_by (is_loaded (inputs_in (filter (by_slot slots) w.all)))) w.all
        (λ d m. ap (λ (b : Bool). held_as b d.is_member d.object) (picked w.all rise (by_slot slots) d m)));
    read = λ c m e.
        let by : by_slot slots c ≡ true = sym (picked w.all rise (by_slot slots) c m) ∙ e in
        let value : slot_at slots c.input ≡ held_by (by_slot slots) c = get_or_from_slice_get slots (c.input - 1) (held_by
        (by_slot slots) c) absent (slot_held w.all slots (by_slot slots) (c.input - 1) c hold (stands w.all numbered c m)) in
        loaded_by (by_slot slots c) c.is_member c.object (sym (ap is_loaded_slot value) ∙ by);
  }

  module _ (libraries : List LibraryFile) (files : List (List ℕ)) (old_slots : List Held) (hold : Hold w.all old_slots) (old : BTreeMap ℕ Wanted)
      (slots : List Held) (definers : List (List ℕ × ℕ)) (new : List ℕ)
      (done : AddedAll w (seen_entries old) new old_slots slots definers) where
    module _ (inputs : List ℕ) (names : List (List ℕ)) (shows : Shows w.all old_slots inputs) (adds_are : AreAdds (seen_entries old)
        (lean_adds w.mode w.all inputs names)) where
      abbrev wanted : List (List ℕ)
      wanted = filter (λ n. not (is_defined w.mode (objects_of w.all inputs) n)) names

      abbrev added : List Added
      added = lean_adds w.mode w.all inputs names

      abbrev after : List ℕ
      after = inputs ++ inputs_of added

      of_all : (a : Added) → Contains added a → Contains w.all a.candidate
      of_all a m = (adds_fresh w.all wanted inputs a m).0

      added_same : added_of w.all (seen_entries old) ≡ added
      added_same = added_is w.all numbered (seen_entries old) added adds_are of_all

      no_fault : first_some (map added_fault added) ≡ None
      no_fault = ap (λ (as' : List Added). first_some (map added_fault as')) (sym added_same) ∙ done.no_fault

      new_is : new ≡ inputs_of added
      new_is = done.inputs ∙ inputs_are (seen_entries old) added adds_are

      slots_are : slots ≡ map (held_by (is_loaded after)) w.all
      slots_are = done.slots (is_loaded inputs) shows.slots_are
          ∙ map_same_of (held_by (is_loaded after)) (held_by (or_in (is_loaded inputs) new)) w.all
          (λ d m. ap (λ (b : Bool). held_as b d.is_member d.object) (ap (λ (xs : List ℕ). is_loaded inputs d || list_any
          (λ k. k == d.input) xs) new_is ∙ sym (list_any-append (λ k. k == d.input) inputs (inputs_of added))))

      shows_after : Shows w.all slots after
      shows_after = record { slots_are = slots_are; read = read_after w.all rise wanted inputs shows.read no_fault }

      loaded_so : (a : Added) → Contains added a → Contains w.all a.candidate × (is_loaded after a.candidate ≡ true)
      loaded_so a m = (
        of_all a m,
        contains_any a.candidate.input after
            (Contains-append_right inputs (inputs_of added) a.candidate.input (contains_map (λ (x : Added). x.candidate.input) added a m)),
      )

      names_are : names_at slots new ≡ names_of added
      names_are = ap (λ (hs : List Held). names_at hs new) slots_are ∙ ap (λ (is : List ℕ). names_at (map (held_by
          (is_loaded after)) w.all) is) new_is
          ∙ names_now w.all numbered (is_loaded after) added loaded_so

      objects_are : loaded_objects slots ≡ objects_of w.all after
      objects_are = ap loaded_objects slots_are ∙ sym (loaded_are w.all after)

      pub next_is : (next : BTreeMap ℕ Wanted) → Looked w libraries files slots after (names_at slots new) next → AreAdds (seen_entries next)
          (lean_adds w.mode w.all after (names_of added))
      next_is next h =
          subst (λ (ns : List (List ℕ)). AreAdds (seen_entries next) (lean_adds w.mode w.all after ns)) names_are
          (subst (λ (os : List Object). AreAdds (seen_entries next) (round_adds w.all (filter (λ n. not (is_defined w.mode os n))
          (names_at slots new)) after)) objects_are
          (entries_add w.all (filter (is_undefined w.mode slots) (names_at slots new)) after rise (seen_entries next) h.holds))

    pub hold_after : Hold w.all slots
    hold_after = holds_by w.all numbered slots (or_in (by_slot old_slots) new) (done.slots (by_slot old_slots) hold)

    pub round_done : (next : BTreeMap ℕ Wanted) → ((inputs : List ℕ) → Shows w.all slots inputs → Looked w libraries files slots inputs
        (names_at slots new) next) → RoundDone w libraries files old_slots old slots definers next
    round_done next looks =
        let h = looks (inputs_in (filter (by_slot slots) w.all)) (shows_itself slots hold_after) in
        record {
          hold = hold_after;
          defines = done.defines;
          ordered = h.ordered;
          entries = h.entries;
          goes = λ inputs names shows adds_are. (
            no_fault inputs names shows adds_are,
            shows_after inputs names shows adds_are,
            next_is inputs names shows adds_are next (looks (after inputs names shows adds_are) (shows_after inputs names shows adds_are)),
          );
        }

  pub fails_round : (old_slots : List Held) (old : BTreeMap ℕ Wanted) (e : RoundError) → FailsBy e (first_some (map added_fault (added_of w.all
      (seen_entries old))))
      → (inputs : List ℕ) (names : List (List ℕ)) → Shows w.all old_slots inputs → AreAdds (seen_entries old)
      (lean_adds w.mode w.all inputs names) → FailsBy e (first_some (map added_fault (lean_adds w.mode w.all inputs names)))
  fails_round old_slots old e f inputs names shows adds_are =
      subst (λ (as' : List Added). FailsBy e (first_some (map added_fault as')))
      (added_is w.all numbered (seen_entries old) (lean_adds w.mode w.all inputs names) adds_are
      (λ a m. (adds_fresh w.all (filter (λ n. not (is_defined w.mode (objects_of w.all inputs) n)) names) inputs a m).0)) f

-- ---- all rounds

pub record Running (w : World) (libraries : List LibraryFile) (files : List (List ℕ)) (old_slots : List Held) (old : BTreeMap ℕ Wanted)
    (rounds left : ℕ) (slots : List Held) (definers : List (List ℕ × ℕ)) (adds : BTreeMap ℕ Wanted) : Type 0 where
  pub hold : Hold w.all slots
  pub defines : Defines w.mode slots definers
  pub ordered : IsOrdered nat_cmp adds
  pub entries : All (λ e. IsEntry w.all libraries files slots e.0 e.1) adds.entries
  pub goes : (inputs : List ℕ) (names : List (List ℕ)) → Shows w.all old_slots inputs → AreAdds (seen_entries old)
      (lean_adds w.mode w.all inputs names)
      → (now : List ℕ) × (more : List (List ℕ)) × Shows w.all slots now × AreAdds (seen_entries adds) (lean_adds w.mode w.all now more)
      × (lean w.mode w.all left now more ≡ lean w.mode w.all rounds inputs names)

nothing : {X : Type 0} (xs : List X) → length xs ≡ 0 → xs ≡ []
nothing [] e = refl
nothing (x ∷ xs) e = absurd (omega (arith, e))

none_added : (es : List Entry) (as' : List Added) → es ≡ [] → AreAdds es as' → as' ≡ []
none_added [] [] e h = refl
none_added [] (a ∷ as') e h = absurd h
none_added (x ∷ es) as' e h = absurd cc

some_added : (es : List Entry) (as' : List Added) → 0 < length es → AreAdds es as' → 0 < length as'
some_added [] as' lt h = absurd (omega (arith, lt))
some_added (e ∷ es) [] lt h = absurd h
some_added (e ∷ es) (a ∷ as') lt h = omega arith

lean_ends : (mode : Mode) (all : List Candidate) (n : ℕ) (now : List ℕ) (more : List (List ℕ)) → lean_adds mode all now more ≡ []
    → lean mode all n now more ≡ Ok now
lean_ends mode all zero now more e = refl
lean_ends mode all (suc n) now more e = ap (lean_on (lean mode all n) now) e

goes_on_to : (again : List ℕ → List (List ℕ) → Result (List ℕ) Fault) (now : List ℕ) (as' : List Added) → 0 < length as' → first_some
    (map added_fault as') ≡ None → lean_on again now as' ≡ again (now ++ inputs_of as') (names_of as')
goes_on_to again now [] lt e = absurd (omega (arith, lt))
goes_on_to again now (a ∷ as') lt e = rw e refl

fails_on : (again : List ℕ → List (List ℕ) → Result (List ℕ) Fault) (now : List ℕ) (as' : List Added) (e : RoundError) → FailsBy e (first_some
    (map added_fault as')) → Fails e (lean_on again now as')
fails_on again now as' OutOfMemory f = tt
fails_on again now [] (Refused fault) f = absurd cc
fails_on again now (a ∷ as') (Refused fault) f = rw f refl

seen_length : (es : List (ℕ × Wanted)) → length (map seen_entry es) ≡ length es
seen_length [] = refl
seen_length (e ∷ es) = ap suc (seen_length es)

module _ (w : World) (libraries : List LibraryFile) (files : List (List ℕ)) (old_slots : List Held) (old : BTreeMap ℕ Wanted) (rounds left : ℕ)
    (slots : List Held) (definers : List (List ℕ × ℕ)) (adds : BTreeMap ℕ Wanted)
    (running : Running w libraries files old_slots old rounds left slots definers adds) where
  abbrev Ends : Type 0
  Ends = (inputs : List ℕ) (names : List (List ℕ)) → Shows w.all old_slots inputs → AreAdds (seen_entries old) (lean_adds w.mode w.all inputs names)
      → (x : List ℕ) × (lean w.mode w.all (length w.all + 1) inputs names ≡ Ok x) × Shows w.all slots x

  ends_with : rounds ≡ length w.all + 1 → ((now : List ℕ) (more : List (List ℕ)) → AreAdds (seen_entries adds) (lean_adds w.mode w.all now more)
      → lean w.mode w.all left now more ≡ Ok now) → Ends
  ends_with many last inputs names shows adds_are =
      let r = running.goes inputs names shows adds_are in
      (r.0, ap (λ (n : ℕ). lean w.mode w.all n inputs names) (sym many) ∙ sym r.4 ∙ last r.0 r.1 r.3, r.2)

  pub ends_empty : rounds ≡ length w.all + 1 → length adds.entries ≡ 0 → Ends
  ends_empty many none = ends_with many (λ now more h. lean_ends w.mode w.all left now more (none_added (seen_entries adds)
      (lean_adds w.mode w.all now more) (ap (λ (es : List (ℕ × Wanted)). map seen_entry es) (nothing adds.entries none)) h))

  pub ends_over : rounds ≡ length w.all + 1 → left ≡ 0 → Ends
  ends_over many none = ends_with many (λ now more h. ap (λ (n : ℕ). lean w.mode w.all n now more) none)

  module _ (some : 0 < left) (filled : 0 < length adds.entries) where
    next_left : left ≡ suc (left - 1)
    next_left = omega (arith, some)

    pub fails_running : rounds ≡ length w.all + 1 → (e : RoundError)
        → ((inputs : List ℕ) (names : List (List ℕ)) → Shows w.all slots inputs → AreAdds (seen_entries adds)
        (lean_adds w.mode w.all inputs names) → FailsBy e (first_some (map added_fault (lean_adds w.mode w.all inputs names))))
        → (inputs : List ℕ) (names : List (List ℕ)) → Shows w.all old_slots inputs → AreAdds (seen_entries old)
        (lean_adds w.mode w.all inputs names) → Fails e (lean w.mode w.all (length w.all + 1) inputs names)
    fails_running many e f inputs names shows adds_are =
        let r = running.goes inputs names shows adds_are in
        let g = fails_on (lean w.mode w.all (left - 1)) r.0 (lean_adds w.mode w.all r.0 r.1) e (f r.0 r.1 r.2 r.3) in
        let same : lean w.mode w.all (suc (left - 1)) r.0 r.1 ≡ lean w.mode w.all (length w.all + 1) inputs names
        = ap (λ (n : ℕ). lean w.mode w.all n r.0 r.1) (sym next_left) ∙ r.4 ∙ ap (λ (n : ℕ). lean w.mode w.all n inputs names) many in
        subst (λ (x : Result (List ℕ) Fault). Fails e x) same g

    pub running_on : (after : List Held) (defined : List (List ℕ × ℕ)) (next : BTreeMap ℕ Wanted) (later : ℕ) → later ≡ left - 1
        → RoundDone w libraries files slots adds after defined next
        → Running w libraries files old_slots old rounds later after defined next
    running_on after defined next later less done = record {
      hold = done.hold;
      defines = done.defines;
      ordered = done.ordered;
      entries = done.entries;
      goes = λ inputs names shows adds_are.
          let r = running.goes inputs names shows adds_are in
          let d = done.goes r.0 r.1 r.2 r.3 in
          let added = lean_adds w.mode w.all r.0 r.1 in
          let lt = some_added (seen_entries adds) (lean_adds w.mode w.all r.0 r.1) (let l = seen_length adds.entries in omega
          (arith, l, filled)) r.3 in (
            r.0 ++ inputs_of (lean_adds w.mode w.all r.0 r.1),
            names_of (lean_adds w.mode w.all r.0 r.1),
            d.1,
            d.2,
            ap (λ (n : ℕ). lean w.mode w.all n (r.0 ++ inputs_of (lean_adds w.mode w.all r.0 r.1)) (names_of (lean_adds w.mode w.all r.0 r.1))) less
                ∙ sym (goes_on_to (lean w.mode w.all (left - 1)) r.0 (lean_adds w.mode w.all r.0 r.1) lt d.0)
                ∙ ap (λ (n : ℕ). lean w.mode w.all n r.0 r.1) (sym next_left) ∙ r.4,
          );
    }

pub running_first : (w : World) (libraries : List LibraryFile) (files : List (List ℕ)) (slots : List Held) (adds : BTreeMap ℕ Wanted)
    (rounds left : ℕ) (definers : List (List ℕ × ℕ)) → left ≡ rounds → Hold w.all slots → Defines w.mode slots definers
    → IsOrdered nat_cmp adds → All (λ e. IsEntry w.all libraries files slots e.0 e.1) adds.entries
    → Running w libraries files slots adds rounds left slots definers adds
running_first w libraries files slots adds rounds left definers same hold defines ordered entries = record {
  hold = hold;
  defines = defines;
  ordered = ordered;
  entries = entries;
  goes = λ inputs names shows adds_are. (inputs, names, shows, adds_are, ap (λ (n : ℕ). lean w.mode w.all n inputs names) same);
}

pub hold_length : (all : List Candidate) (slots : List Held) → Hold all slots → length slots ≡ length all
hold_length all slots hold = ap length hold ∙ length-map all (held_by (by_slot slots))

-- ---- the whole

pub first_is : (w : World) (numbered : (i : ℕ) (c : Candidate) → slice_get w.all i ≡ Some c → c.input ≡ i + 1) (libraries : List LibraryFile)
    (files : List (List ℕ)) (slots : List Held) (inputs : List ℕ) (asked : List (List ℕ)) (adds : BTreeMap ℕ Wanted)
    → Shows w.all slots inputs → Looked w libraries files slots inputs (first_names asked (loaded_objects slots)) adds
    → AreAdds (seen_entries adds) (lean_adds w.mode w.all inputs (first_names asked (objects_of w.all inputs)))
first_is w numbered libraries files slots inputs asked adds shows h =
    subst (λ (os : List Object). AreAdds (seen_entries adds) (round_adds w.all (filter (λ n. not (is_defined w.mode os n))
    (first_names asked os)) inputs))
    (ap loaded_objects shows.slots_are ∙ sym (loaded_are w.all inputs))
    (entries_add w.all (filter (is_undefined w.mode slots) (first_names asked (loaded_objects slots))) inputs (numbers_rise w.all numbered)
    (seen_entries adds) h.holds)

abbrev with_objects : List Candidate → Result (List ℕ) Fault → Result (List Object) Fault
with_objects all r = r >>= λ loaded. Ok (objects_of all loaded)

pub load_lean : (mode : Mode) (asked : List (List ℕ)) (all : List Candidate) → Rise (inputs_in all) → always_read_fault all ≡ None
    → load mode asked all ≡ with_objects all (lean mode all (length all + 1) (at_once all) (first_names asked (objects_of all (at_once all))))
unfolding load
load_lean mode asked all up none = ap (with_objects all) (lean_is mode asked all up
    ∙ ap (λ (f : Option Fault). unless f (at_once all) >>= λ l. lean mode all (length all + 1) l (first_names asked (objects_of all l))) none)

pub load_refused : (mode : Mode) (asked : List (List ℕ)) (all : List Candidate) (e : RoundError) → FailsBy e (always_read_fault all) → Fails e
    (load mode asked all)
unfolding load
load_refused mode asked all OutOfMemory f = tt
load_refused mode asked all (Refused fault) f = ap (λ (x : Option Fault). with_objects all (unless x (at_once all) >>= rounds mode asked all
    (length all + 1))) f

pub ends_loaded : (all : List Candidate) (said : Result (List ℕ) Fault) (slots : List Held) → (x : List ℕ) × (said ≡ Ok x) × Shows all slots x
    → with_objects all said ≡ Ok (loaded_objects slots)
ends_loaded all said slots h = ap (with_objects all) h.1 ∙ ap (λ (os : List Object). let r : Result (List Object) Fault = Ok os in r)
    (loaded_are all h.0 ∙ ap loaded_objects (sym h.2.slots_are))

pub fails_loaded : (all : List Candidate) (said : Result (List ℕ) Fault) (e : RoundError) → Fails e said → Fails e (with_objects all said)
fails_loaded all said OutOfMemory f = tt
fails_loaded all said (Refused fault) f = ap (with_objects all) f
