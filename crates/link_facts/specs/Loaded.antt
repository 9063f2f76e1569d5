-- The program of loaded objects is sound, for its objects are, and what symbols mean is taken from the entries of their names.
use Rattle.std.specs.Prelude.{◌≡◌, ℕ, List, None}
use Rattle.list_places.specs.Has.{Has}
use Rattle.object_file.specs.declared.object.Object.{Object}
use Rattle.object_file.specs.Sound.{Sound as ObjectSound}
use Rattle.made_symbols.specs.declared.mode.Mode.TheVariants.{Plain}
use Rattle.round_rules.specs.Rounds.{Candidate}
use Rattle.program_build.specs.name_entries.View.{InputsRise}
use Rattle.name_rules.specs.Entries.{entries}
use Rattle.name_rules.specs.Cases.{clash_by}
use Rattle.link_plan.specs.declared.plan.Plan.{Plan}
use Rattle.output_module.specs.link_rules.Program.{strict_program}
use Rattle.output_module.specs.link_rules.Marks.{exported}
use Rattle.output_module.specs.link_worlds.Sound.{Sound, SoundExports}

-- The objects were read, and their inputs rise.
pub record AreLoaded (objects : List Object) : Type 0 where
  pub rise : InputsRise 0 objects
  pub each : (o : Object) → Has objects o → (size : ℕ) × ObjectSound size o

-- Where no names clash, references and exports name what is there, before calls are loosened.
abbrev pub ProgramsAreSound : Type 0
ProgramsAreSound = (plan : Plan) (files : List (List ℕ)) (all : List Candidate) (objects : List Object) → AreLoaded objects
    → clash_by plan.loose_calls (entries Plain objects) ≡ None
    → (let p = strict_program Plain plan files all objects in Sound p × SoundExports p (exported Plain p))
