-- What the steps of the call tell one another.
use Rattle.std.specs.Prelude.{◌≡◌, ◌<◌, ◌^◌, ℕ, List, [], length, map, Result, Ok, Err}
use Rattle.link_program.specs.round_rules.Rounds.{Candidate, load}
use Rattle.link_program.specs.link_plan.declared.plan.Plan.{Plan}
use Rattle.link_program.specs.link_rules.ModeOf.{mode_of}
use Rattle.link_program.specs.link_rules.LinkOf.{asked_names}
use Rattle.link_program.specs.declared.error.LinkError.{LinkError}
use Rattle.link_inputs.specs.declared.inputs.Inputs.{Inputs}
use Rattle.link_inputs.specs.declared.numbering.Sources.{Sources}
use Rattle.link_inputs.specs.declared.opening.OpenFile.{OpenFile}
use Rattle.link_program.specs.Answers.{Fails}
use Rattle.link_inputs.specs.Opened.{opened_from, input_count}
use Rattle.link_inputs.specs.Words.{words_of}
use Rattle.link_inputs.specs.Sources.{AreSources}
use Rattle.link_program.specs.Loaded.{home_of}
use Rattle.link_inputs.specs.Inputs.{inputs_from}

abbrev pub or_none : {A F : Type 0} → Result (List A) F → List A
or_none (Ok xs) = xs
or_none (Err f) = []

-- the files as they are opened
abbrev pub all_opened : List (List ℕ) → List OpenFile
all_opened files = or_none (opened_from 0 files)

-- all inputs
abbrev pub all_inputs : Plan → List (List ℕ) → List Candidate
all_inputs plan files = inputs_from 0 1 (words_of plan (length files)) files (all_opened files)

-- The files are opened, and their inputs numbered.
pub record Sourced (plan : Plan) (files : List (List ℕ)) (s : Sources) : Type 0 where
  pub opened : opened_from 0 files ≡ Ok (all_opened files)
  pub words : length (words_of plan (length files)) ≡ length files
  pub few_files : length files < 2 ^ 32
  pub few : input_count (all_opened files) < 2 ^ 20
  pub are : AreSources (words_of plan (length files)) (all_opened files) s

-- What is loaded of all inputs, and their homes; or the first fault.
abbrev pub LoadsAll : Result Inputs LinkError → Plan → List (List ℕ) → Type 0
LoadsAll (Ok i) plan files = (load (mode_of plan) (asked_names plan) (all_inputs plan files) ≡ Ok i.loaded) × (i.homes ≡ map home_of (all_inputs plan files))
LoadsAll (Err e) plan files = Fails e (load (mode_of plan) (asked_names plan) (all_inputs plan files))
