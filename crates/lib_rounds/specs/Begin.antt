-- What is loaded at once, before the first round.
use Rattle.std.specs.Prelude.{◌≡◌, ◌<◌, ◌^◌, ◌+◌, ◌-◌, ℕ, Bool, not, ◌&&◌, ◌==◌, List, map, length, if◌then◌else◌, Some, None, slice_get, slice_set, sum_by, MatchBool, Result, Ok, Err}
use Rattle.std.specs.Map.{lookup}
use Rattle.std.specs.List.{list_any}
use Rattle.std.specs.Str.{bytes_eq}
use Rattle.object_file.specs.wl_base.Choice.{first_some}
use Rattle.object_file.specs.wl_base.declared.span.Span.{Span}
use Rattle.made_symbols.specs.declared.mode.Mode.{Mode}
use Rattle.lib_index.specs.Table.{shown}
use Rattle.lib_rounds.specs.declared.begin.Start.{Start}
use Rattle.round_rules.specs.declared.given.GivenObject.{GivenObject}
use Rattle.round_rules.specs.declared.given.LibraryFile.{LibraryFile}
use Rattle.lib_rounds.specs.declared.error.RoundError.{RoundError}
use Rattle.round_rules.specs.Rounds.{Candidate, object_fault, at_once, always_read_fault}
use Rattle.round_rules.specs.RoundLaws.{inputs_in, Rise}
use Rattle.round_rules.specs.Inputs.{IsGivenAs, members_of}
use Rattle.lib_rounds.specs.Offers.{lazy_offer}
use Rattle.lib_rounds.specs.Held.{Held, absent, holding, held_by}
use Rattle.lib_rounds.specs.State.{World, Knows, Shows, Defines, Enters, IsOffer, FailsBy, or_in}

-- how many inputs there are
abbrev pub input_count : ℕ → List LibraryFile → ℕ
input_count given libraries = given + sum_by (λ l. length l.library.members) libraries

-- An object of the words is put into its slot, and its names into the table of lazy ones or of definitions.
pub record IsPut (g : GivenObject) (old new : List Held) (lazies lazies_now definers definers_now : List (List ℕ × ℕ)) : Type 0 where
  pub slot : new ≡ slice_set old (g.object.input - 1) (holding (not g.lazy) g.object)
  pub names : MatchBool g.lazy (Enters g.object g.object.input lazies lazies_now × (definers_now ≡ definers))
      (Enters g.object g.object.input definers definers_now × (lazies_now ≡ lazies))

-- The objects of the words as candidates; no two are of one input.
pub record KnowsGiven (all : List Candidate) (given : List GivenObject) : Type 0 where
  pub numbered : (i : ℕ) (c : Candidate) → slice_get all i ≡ Some c → c.input ≡ i + 1
  pub at : (j : ℕ) (g : GivenObject) → slice_get given j ≡ Some g → (c : Candidate) × (slice_get all (g.object.input - 1) ≡ Some c) × IsGivenAs c g
  pub rise : Rise (map (λ g. g.object.input) given)

-- what an object is before any member is loaded
abbrev pub starts : Candidate → Bool
starts c = not c.by_need && not c.is_member

-- a slot once these objects are put
abbrev pub held_of : List GivenObject → Candidate → Held
held_of done c = if list_any (λ g. g.object.input == c.input) done then held_by starts c else absent

-- These objects are put.
pub record PutsAll (w : World) (done : List GivenObject) (slots : List Held) (lazies definers : List (List ℕ × ℕ)) : Type 0 where
  pub slots_are : slots ≡ map (held_of done) w.all
  pub lazy : (n : List ℕ) → lookup (bytes_eq n) lazies ≡ lazy_offer done n
  pub defines : Defines w.mode slots definers

-- The members of libraries as candidates.
pub record KnowsMembers (all : List Candidate) (libraries : List LibraryFile) (files : List (List ℕ)) : Type 0 where
  pub numbered : (i : ℕ) (c : Candidate) → slice_get all i ≡ Some c → c.input ≡ i + 1
  pub few : length all < 2 ^ 20
  pub member : (j k : ℕ) (l : LibraryFile) (s : Span) → slice_get libraries j ≡ Some l → slice_get l.library.members k ≡ Some s
      → (c : Candidate) × (slice_get (members_of files l) k ≡ Some c) × (slice_get all (l.first + k - 1) ≡ Some c) × IsOffer libraries files
      (record { input = l.first + k; library = j; member = k }) c

-- These candidates are loaded, or the first fault of them is told.
pub record LoadedAll (w : World) (cs : List Candidate) (old new : List Held) (definers : List (List ℕ × ℕ)) : Type 0 where
  pub no_fault : first_some (map object_fault cs) ≡ None
  pub slots : (p : Candidate → Bool) → old ≡ map (held_by p) w.all → new ≡ map (held_by (or_in p (inputs_in cs))) w.all
  pub defines : Defines w.mode new definers

abbrev pub LoadsAll : {A : Type 0} → Result A RoundError → World → List Candidate → List Held → List Held → List (List ℕ × ℕ) → Type 0
LoadsAll (Ok done) w cs old new definers = LoadedAll w cs old new definers
LoadsAll (Err e) w cs old new definers = FailsBy e (first_some (map object_fault cs))

-- What is loaded at once is loaded, or the first fault of it is told.
abbrev pub Begins : Result Start RoundError → List Candidate → Mode → List LibraryFile → List (List ℕ) → Type 0
Begins (Ok s) all mode libraries files =
    (always_read_fault all ≡ None) × Shows all s.slots.items (at_once all) × Knows all libraries files (shown s.lazies) × Defines mode s.slots.items
    (shown s.definers)
Begins (Err e) all mode libraries files = FailsBy e (always_read_fault all)
