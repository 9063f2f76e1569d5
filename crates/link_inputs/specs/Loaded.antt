-- What holds of the loaded objects of a link.
use Rattle.std.specs.Prelude.{◌≡◌, ◌<◌, ◌^◌, ℕ, List, length, map, unwrap_or, Ok}
use Rattle.link_program.specs.object_file.declared.object.Object.{Object}
use Rattle.link_program.specs.made_symbols.declared.mode.Mode.{Mode}
use Rattle.link_program.specs.round_rules.Rounds.{Candidate, load}
use Rattle.link_program.specs.link_plan.declared.plan.Plan.{Plan}
use Rattle.link_program.specs.link_rules.Candidates.{candidates_of}
use Rattle.link_program.specs.link_rules.LinkOf.{asked_names, the_readers}
use Rattle.link_program.specs.Loaded.{the_candidates, home_of, IsLoaded}
use Rattle.link_inputs.specs.declared.inputs.Inputs.{Inputs}

-- What is loaded are the objects of the candidates that need them, each sound in its place; and there is a home for each candidate.
pub record AreInputs (mode : Mode) (plan : Plan) (files : List (List ℕ)) (i : Inputs) : Type 0 where
  pub candidates : candidates_of the_readers plan files ≡ Ok (the_candidates plan files)
  pub objects : load mode (asked_names plan) (the_candidates plan files) ≡ Ok i.loaded
  pub loaded : IsLoaded files (the_candidates plan files) i.loaded i.homes

-- What is loaded of the candidates of files is sound in its place, and there are fewer than 2^20 candidates.
abbrev pub LoadedAreSound : Type 0
LoadedAreSound = (mode : Mode) (plan : Plan) (files : List (List ℕ)) (asked : List (List ℕ)) (all : List Candidate) (objects : List Object)
    → length files ≡ unwrap_or plan.make_case (length plan.inputs) → candidates_of the_readers plan files ≡ Ok all → load mode asked all ≡ Ok objects
    → (length all < 2 ^ 20) × IsLoaded files all objects (map home_of all)
