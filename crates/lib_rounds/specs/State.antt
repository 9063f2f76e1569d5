-- What the code of the rounds keeps, and what it tells of the candidates.
use Rattle.std.specs.Prelude.{◌≡◌, ◌<◌, ◌^◌, ◌≤◌, ◌+◌, ◌-◌, ◌||◌, ◌==◌, ℕ, Bool, true, false, not, List, [], ◌∷◌, ◌++◌, length, map, filter, filter_map, flat_map, All, Contains, MatchBool, Option, Some, None, is_some, slice_get, slice_set, slice_index_or, cond, Result, Ok, Err}
use Rattle.std.specs.Ordering.{nat_cmp}
use Rattle.std.specs.BTreeMap.{BTreeMap, IsOrdered}
use Rattle.std.specs.List.{list_any}
use Rattle.std.specs.Map.{lookup}
use Rattle.std.specs.Str.{bytes_eq}
use Rattle.object_file.specs.wl_base.declared.fault.Fault.{Fault}
use Rattle.object_file.specs.wl_base.declared.fault.Fault.TheVariants.{TooManyNames}
use Rattle.object_file.specs.wl_base.declared.span.Span.{Span}
use Rattle.object_file.specs.wl_base.Choice.{first_some, has_name}
use Rattle.lib_index.specs.Library.{bytes_of}
use Rattle.object_file.specs.declared.object.Object.{Object}
use Rattle.object_file.specs.ObjectOf.{object_of}
use Rattle.made_symbols.specs.declared.mode.Mode.{Mode}
use Rattle.round_rules.specs.declared.given.LibraryFile.{LibraryFile}
use Rattle.lib_rounds.specs.declared.error.RoundError.{RoundError}
use Rattle.lib_rounds.specs.declared.error.RoundError.TheVariants.{Refused, OutOfMemory}
use Rattle.lib_rounds.specs.declared.offer.Offer.{Offer}
use Rattle.lib_rounds.specs.declared.adds.Wanted.{Wanted}
use Rattle.round_rules.specs.Rounds.{Candidate, Added, added_fault, inputs_of, defined_names, strong_names, is_loaded, is_defined, is_just, offering}
use Rattle.lib_rounds.specs.Lean.{Entry, HoldNames, AreAdds, lean_adds, names_of}
use Rattle.lib_rounds.specs.Held.{Held, absent, loaded, loaded_objects, object_held, held_by, is_loaded_slot}
use Rattle.lib_rounds.specs.Offers.{lesser, library_offer}

-- What a call answered, seen by view, is what is said. Want of memory alone is free.
abbrev pub Fails : {Y : Type 0} → RoundError → Result Y Fault → Type 0
Fails (Refused fault) said = said ≡ Err fault
Fails OutOfMemory said = Unit {0}

abbrev pub Answers : {X Y : Type 0} → (X → Y) → Result X RoundError → Result Y Fault → Type 0
Answers view (Ok x) said = said ≡ Ok (view x)
Answers view (Err e) said = Fails e said

-- ---- what offers a name

-- The candidate is the member of a library that the offer tells.
pub record IsMember (libraries : List LibraryFile) (files : List (List ℕ)) (o : Offer) (read : Result Object Fault) : Type 0 where
  pub l : LibraryFile
  pub s : Span
  pub bytes : List ℕ
  pub at_library : slice_get libraries o.library ≡ Some l
  pub at_member : slice_get l.library.members o.member ≡ Some s
  pub at_file : slice_get files l.file ≡ Some bytes
  pub within : s.start + s.len ≤ length bytes
  pub object : read ≡ object_of o.input (bytes_of bytes s)

-- The candidate is the one that the offer tells.
pub record IsOffer (libraries : List LibraryFile) (files : List (List ℕ)) (o : Offer) (c : Candidate) : Type 0 where
  pub input : c.input ≡ o.input
  pub from : MatchBool c.is_member (IsMember libraries files o c.object) ((object : Object) × (c.object ≡ Ok object))

-- What is known of the inputs: how they are numbered, and who offers a name.
pub record Knows (all : List Candidate) (libraries : List LibraryFile) (files : List (List ℕ)) (lazies : List (List ℕ × ℕ)) : Type 0 where
  pub numbered : (i : ℕ) (c : Candidate) → slice_get all i ≡ Some c → c.input ≡ i + 1
  pub few : length all < 2 ^ 20
  pub finds : (name : List ℕ) → offering all name ≡ lesser (lookup (bytes_eq name) lazies) (library_offer libraries name)
  pub lazy : (name : List ℕ) (input : ℕ) → lookup (bytes_eq name) lazies ≡ Some input
      → (c : Candidate) × (slice_get all (input - 1) ≡ Some c) × (c.input ≡ input) × (c.is_member ≡ false) × ((o : Object) × (c.object ≡ Ok o))
  pub member : (j k : ℕ) (l : LibraryFile) (s : Span) → slice_get libraries j ≡ Some l → slice_get l.library.members k ≡ Some s
      → (c : Candidate) × (slice_get all (l.first + k - 1) ≡ Some c) × IsOffer libraries files (record {
        input = l.first + k;
        library = j;
        member = k;
      }) c

-- ---- slots

abbrev pub slot_at : List Held → ℕ → Held
slot_at slots input = slice_index_or slots (input - 1) absent

-- a candidate is loaded, by its slot
abbrev pub by_slot : List Held → Candidate → Bool
by_slot slots c = is_loaded_slot (slot_at slots c.input)

-- a candidate is loaded, or is one of these inputs
abbrev pub or_in : (Candidate → Bool) → List ℕ → Candidate → Bool
or_in is_loaded inputs c = is_loaded c || list_any (λ k. k == c.input) inputs

-- The slots hold the candidates.
abbrev pub Hold : List Candidate → List Held → Type 0
Hold all slots = slots ≡ map (held_by (by_slot slots)) all

-- ---- definitions

-- The names that are defined are those of the table. An input in it is loaded, or 0 for the linker.
pub record Defines (mode : Mode) (slots : List Held) (definers : List (List ℕ × ℕ)) : Type 0 where
  pub defined : (name : List ℕ) → is_some (lookup (bytes_eq name) definers) ≡ is_defined mode (loaded_objects slots) name
  pub by_loaded : (name : List ℕ) (input : ℕ) → lookup (bytes_eq name) definers ≡ Some input → 0 < input → is_loaded_slot (slot_at slots input) ≡ true

-- whether the name's input isn't this one
abbrev pub is_other : List (List ℕ × ℕ) → ℕ → List ℕ → Bool
is_other definers input name = not (is_just input (lookup (bytes_eq name) definers))

-- ---- what a round adds

abbrev pub seen_entry : ℕ × Wanted → Entry
seen_entry e = (e.0, e.1.names)

abbrev pub seen_entries : BTreeMap ℕ Wanted → List Entry
seen_entries adds = map seen_entry adds.entries

-- An entry is that of a candidate that isn't loaded.
pub record IsEntry (all : List Candidate) (libraries : List LibraryFile) (files : List (List ℕ)) (slots : List Held) (input : ℕ)
    (w : Wanted) : Type 0 where
  pub c : Candidate
  pub at : slice_get all (input - 1) ≡ Some c
  pub input_is : w.offer.input ≡ input
  pub offer : IsOffer libraries files w.offer c
  pub unloaded : is_loaded_slot (slot_at slots input) ≡ false
  pub some : 0 < length w.names

-- What the calls that do a part of the rounds share.
pub record World : Type 0 where
  pub mode : Mode
  pub all : List Candidate

-- a name isn't defined by what the slots hold
abbrev pub is_undefined : Mode → List Held → List ℕ → Bool
is_undefined mode slots name = not (is_defined mode (loaded_objects slots) name)

-- the candidate of an input
abbrev pub no_candidate : Candidate
no_candidate = record { input = 0; file = 0; start = 0; len = 0; is_member = false; by_need = false; offers = []; object = Err TooManyNames }

abbrev pub candidate_at : List Candidate → ℕ → Candidate
candidate_at all input = slice_index_or all (input - 1) no_candidate

-- ---- loading

-- A slot is filled by what was read, or the fault is told.
abbrev pub Fills : {A : Type 0} → Result A RoundError → Result Object Fault → ℕ → List Held → List Held → Type 0
Fills (Ok done) read input old new = (o : Object) × (read ≡ Ok o) × (new ≡ slice_set old (input - 1) (loaded o))
Fills (Err e) read input old new = Fails e read

-- The names that an object defines have its input, and the others are as before.
abbrev pub Enters : Object → ℕ → List (List ℕ × ℕ) → List (List ℕ × ℕ) → Type 0
Enters o input old new = (n : List ℕ) → lookup (bytes_eq n) new ≡ cond (has_name (defined_names o) n) (Some input) (lookup (bytes_eq n) old)

abbrev pub Loads : {A : Type 0} → Result A RoundError → Result Object Fault → ℕ → List Held → List Held → List (List ℕ × ℕ) → List (List ℕ × ℕ)
    → Type 0
Loads (Ok done) read input old new before after = (o : Object) × (read ≡ Ok o) × (new ≡ slice_set old (input - 1) (loaded o))
    × Enters o input before after
Loads (Err e) read input old new before after = Fails e read

-- What is added is loaded, and its index doesn't lie; or the fault is told.
abbrev pub FailsBy : RoundError → Option Fault → Type 0
FailsBy (Refused fault) said = said ≡ Some fault
FailsBy OutOfMemory said = Unit {0}

abbrev pub AddsOne : {A : Type 0} → Result A RoundError → Added → ℕ → List Held → List Held → List (List ℕ × ℕ) → List (List ℕ × ℕ) → Type 0
AddsOne (Ok done) a input old new before after =
    (added_fault a ≡ None) × ((o : Object) × (a.candidate.object ≡ Ok o) × (new ≡ slice_set old (input - 1) (loaded o)) × Enters o input before after)
AddsOne (Err e) a input old new before after = FailsBy e (added_fault a)

-- what the entries of a round add
abbrev pub added_at : Option Candidate → List (List ℕ) → List Added → List Added
added_at None names later = later
added_at (Some c) names later = record { candidate = c; names = names } ∷ later

abbrev pub added_of : List Candidate → List Entry → List Added
added_of all [] = []
added_of all (e ∷ es) = added_at (slice_get all (e.0 - 1)) e.1 (added_of all es)

-- All that a round adds is loaded, or the first fault of it is told.
pub record AddedAll (w : World) (entries : List Entry) (new : List ℕ) (old_slots new_slots : List Held) (definers : List (List ℕ × ℕ)) : Type 0 where
  pub no_fault : first_some (map added_fault (added_of w.all entries)) ≡ None
  pub inputs : new ≡ map (λ e. e.0) entries
  pub slots : (p : Candidate → Bool) → old_slots ≡ map (held_by p) w.all → new_slots ≡ map (held_by (or_in p new)) w.all
  pub defines : Defines w.mode new_slots definers

abbrev pub AddsAll : Result (List ℕ) RoundError → World → List Entry → List Held → List Held → List (List ℕ × ℕ) → Type 0
AddsAll (Ok new) w entries old_slots new_slots definers = AddedAll w entries new old_slots new_slots definers
AddsAll (Err e) w entries old_slots new_slots definers = FailsBy e (first_some (map added_fault (added_of w.all entries)))

-- ---- looking at names

-- what is wanted of an input, with one more name
abbrev pub pushed : Option Wanted → Offer → List ℕ → Wanted
pushed None offer name = record { offer = offer; names = name ∷ [] }
pushed (Some w) offer name = record { offer = w.offer; names = w.names ++ name ∷ [] }

-- The slots show what is loaded, and each loaded candidate is an object.
pub record Shows (all : List Candidate) (slots : List Held) (inputs : List ℕ) : Type 0 where
  pub slots_are : slots ≡ map (held_by (is_loaded inputs)) all
  pub read : (c : Candidate) → Contains all c → is_loaded inputs c ≡ true → (o : Object) × (c.object ≡ Ok o)

-- What is gathered after looking at these names.
pub record Looked (w : World) (libraries : List LibraryFile) (files : List (List ℕ)) (slots : List Held) (inputs : List ℕ) (names : List (List ℕ))
    (adds : BTreeMap ℕ Wanted) : Type 0 where
  pub holds : HoldNames w.all (filter (is_undefined w.mode slots) names) inputs (seen_entries adds)
  pub ordered : IsOrdered nat_cmp adds
  pub entries : All (λ e. IsEntry w.all libraries files slots e.0 e.1) adds.entries

-- After looking at more names there is what is gathered of all.
abbrev pub Looks : World → List LibraryFile → List (List ℕ) → List Held → List (List ℕ) → BTreeMap ℕ Wanted → BTreeMap ℕ Wanted → Type 0
Looks w libraries files slots more old new = (inputs : List ℕ) (names : List (List ℕ)) → Shows w.all slots inputs
    → Looked w libraries files slots inputs names old → Looked w libraries files slots inputs (names ++ more) new

-- the names that the objects of inputs refer to strongly
abbrev pub names_at : List Held → List ℕ → List (List ℕ)
names_at slots inputs = flat_map strong_names (filter_map (λ i. object_held (slot_at slots i)) inputs)

-- ---- a round, and all of them

-- After a round that has no fault, what the next one adds is known.
pub record RoundDone (w : World) (libraries : List LibraryFile) (files : List (List ℕ)) (old_slots : List Held) (old : BTreeMap ℕ Wanted)
    (slots : List Held) (definers : List (List ℕ × ℕ)) (adds : BTreeMap ℕ Wanted) : Type 0 where
  pub hold : Hold w.all slots
  pub defines : Defines w.mode slots definers
  pub ordered : IsOrdered nat_cmp adds
  pub entries : All (λ e. IsEntry w.all libraries files slots e.0 e.1) adds.entries
  pub goes : (inputs : List ℕ) (names : List (List ℕ)) → Shows w.all old_slots inputs → AreAdds (seen_entries old)
      (lean_adds w.mode w.all inputs names)
      → (first_some (map added_fault (lean_adds w.mode w.all inputs names)) ≡ None)
      × Shows w.all slots (inputs ++ inputs_of (lean_adds w.mode w.all inputs names))
      × AreAdds (seen_entries adds) (lean_adds w.mode w.all (inputs ++ inputs_of (lean_adds w.mode w.all inputs names)) (names_of
      (lean_adds w.mode w.all inputs names)))

abbrev pub DoesRound : Result (BTreeMap ℕ Wanted) RoundError → World → List LibraryFile → List (List ℕ) → List Held → BTreeMap ℕ Wanted
    → List Held → List (List ℕ × ℕ) → Type 0
DoesRound (Ok adds) w libraries files old_slots old slots definers = RoundDone w libraries files old_slots old slots definers adds
DoesRound (Err e) w libraries files old_slots old slots definers = (inputs : List ℕ) (names : List (List ℕ)) → Shows w.all old_slots inputs
    → AreAdds (seen_entries old) (lean_adds w.mode w.all inputs names) → FailsBy e (first_some (map added_fault
    (lean_adds w.mode w.all inputs names)))

-- What the rounds give, seen by the slots.
abbrev pub RunsTo : {A : Type 0} → Result A RoundError → Result (List ℕ) Fault → List Candidate → List Held → Type 0
RunsTo (Ok done) said all slots = (inputs : List ℕ) × (said ≡ Ok inputs) × Shows all slots inputs
RunsTo (Err e) said all slots = Fails e said
