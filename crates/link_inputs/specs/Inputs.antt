-- What is loaded of the files of a link.
use Rattle.std.specs.Prelude.{ℕ, ◌+◌, List, [], ◌∷◌, ◌++◌, Result}
use Rattle.link_program.specs.wl_base.Choice.{◌>>=◌}
use Rattle.link_program.specs.wl_base.declared.fault.Fault.{Fault}
use Rattle.link_program.specs.object_file.declared.object.Object.{Object}
use Rattle.link_program.specs.made_symbols.declared.mode.Mode.{Mode}
use Rattle.link_program.specs.round_rules.Rounds.{Candidate, load}
use Rattle.link_program.specs.link_plan.declared.plan.Plan.{Plan}
use Rattle.link_program.specs.link_plan.declared.plan.InputWord.{InputWord}
use Rattle.link_program.specs.link_rules.Candidates.{plain_candidate, members_from, candidates_of}
use Rattle.link_program.specs.link_rules.LinkOf.{asked_names, the_readers}
use Rattle.link_inputs.specs.declared.opening.OpenFile.{OpenFile}
use Rattle.link_inputs.specs.declared.opening.OpenFile.TheVariants as files
use Rattle.link_inputs.specs.Opened.{count_in}

-- The objects that are loaded of files, or the first fault.
unfoldable pub loaded_of : Mode → Plan → List (List ℕ) → Result (List Object) Fault
loaded_of mode plan files = do
  all ← candidates_of the_readers plan files
  load mode (asked_names plan) all

-- ---- candidates of files that are opened

-- Those of a file, by its place, its first input and its word.
abbrev pub candidates_at : ℕ → ℕ → InputWord → List ℕ → OpenFile → List Candidate
candidates_at file input w bytes (files.Object len) = plain_candidate the_readers file w bytes input ∷ []
candidates_at file input w bytes (files.Library l) = members_from the_readers file w bytes input 0 l.offered l.members

-- Those of the files from a place on.
abbrev pub inputs_from : ℕ → ℕ → List InputWord → List (List ℕ) → List OpenFile → List Candidate
inputs_from file input [] bs os = []
inputs_from file input (w ∷ ws) [] os = []
inputs_from file input (w ∷ ws) (b ∷ bs) [] = []
inputs_from file input (w ∷ ws) (b ∷ bs) (o ∷ os) = candidates_at file input w b o ++ inputs_from (file + 1) (input + count_in o) ws bs os
