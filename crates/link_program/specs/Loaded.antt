-- What holds of the objects that were loaded: each is what a candidate's bytes are, and sound.
use Rattle.std.specs.Prelude.{◌≡◌, ℕ, ◌+◌, ◌-◌, ◌≤◌, ◌<◌, List, length, map, slice_get, slice_index_or, [], Some, Result, Ok, Err, All}
use Rattle.name_meanings.specs.name_entries.object_file.declared.object.Object.{Object}
use Rattle.name_meanings.specs.name_entries.object_file.Sound.{Sound}
use Rattle.link_rules.specs.round_rules.Rounds.{Candidate}
use Rattle.name_meanings.specs.name_entries.View.{InputsRise}
use Rattle.link_plan.specs.declared.plan.Plan.{Plan}
use Rattle.name_meanings.specs.name_entries.wl_base.declared.fault.Fault.{Fault}
use Rattle.link_rules.specs.Candidates.{candidates_of}
use Rattle.link_rules.specs.LinkOf.{the_readers}
use Rattle.link_program.specs.declared.home.Home.{Home}

abbrev pub given_or_none : Result (List Candidate) Fault → List Candidate
given_or_none (Ok all) = all
given_or_none (Err fault) = []

-- The candidates of a link, where they can be told.
abbrev pub the_candidates : Plan → List (List ℕ) → List Candidate
the_candidates plan files = given_or_none (candidates_of the_readers plan files)

abbrev pub home_of : Candidate → Home
home_of c = record { file = c.file; start = c.start; len = c.len }

-- Where loaded objects come from: what the words ask for, the files, and the candidates in them.
pub record Origin : Type 0 where
  pub plan : Plan
  pub files : List (List ℕ)
  pub all : List Candidate

-- The object is what the candidate's bytes are, which lie in its file.
pub record IsReadFrom (files : List (List ℕ)) (c : Candidate) (o : Object) : Type 0 where
  pub input : c.input ≡ o.input
  pub object : c.object ≡ Ok o
  pub sound : Sound c.len o
  pub file : c.file < length files
  pub lies : c.start + c.len ≤ length (slice_index_or files c.file [])

-- Candidates count from 1, and so do the homes; inputs of loaded objects rise.
pub record IsLoaded (files : List (List ℕ)) (all : List Candidate) (objects : List Object) (starts : List Home) : Type 0 where
  pub numbered : (i : ℕ) (c : Candidate) → slice_get all i ≡ Some c → c.input ≡ i + 1
  pub homes : starts ≡ map home_of all
  pub rise : InputsRise 0 objects
  pub each : All (λ (o : Object). (c : Candidate) × (slice_get all (o.input - 1) ≡ Some c) × IsReadFrom files c o) objects
