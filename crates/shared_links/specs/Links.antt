-- The output of a shared link is a module, said of the definition of the whole link.
use Rattle.std.specs.Prelude.{◌≡◌, ℕ, List, length, unwrap_or, Ok}
use Rattle.object_file.specs.declared.object.Object.{Object}
use Rattle.round_rules.specs.Rounds.{Candidate, load}
use Rattle.link_plan.specs.declared.plan.Plan.{Plan}
use Rattle.made_symbols.specs.declared.mode.Mode.TheVariants.{Shared}
use Rattle.link_rules.specs.ModeOf.{mode_of}
use Rattle.link_rules.specs.Candidates.{candidates_of}
use Rattle.link_rules.specs.Program.{program_of}
use Rattle.link_rules.specs.Marks.{exported}
use Rattle.link_rules.specs.LinkOf.{asked_names, the_readers, link_of}
use Rattle.shared_module.specs.Outputs.{IsSharedRead}

-- The bytes are read as the module of the program of the loaded objects, and spell no other.
pub record SharedReads (plan : Plan) (files : List (List ℕ)) (bytes : List ℕ) : Type 0 where
  pub all : List Candidate
  pub objects : List Object
  pub found : candidates_of the_readers plan files ≡ Ok all
  pub loaded : load Shared (asked_names plan) all ≡ Ok objects
  pub read : IsSharedRead (program_of Shared plan files all objects) (exported Shared (program_of Shared plan files all objects)) bytes

abbrev pub SharedLinksAreRead : Type 0
SharedLinksAreRead = (plan : Plan) (files : List (List ℕ)) (bytes : List ℕ)
    → length files ≡ unwrap_or plan.make_case (length plan.inputs) → mode_of plan ≡ Shared → link_of plan files ≡ Ok bytes → SharedReads plan files bytes
