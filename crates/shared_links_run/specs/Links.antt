-- A shared link that gives bytes runs as the loaded objects.
use Rattle.std.specs.Prelude.{◌≡◌, ℕ, List, length, unwrap_or, Ok}
use Rattle.wasm_module.specs.declared.structure.Module.{Module}
use Rattle.wasm_module.specs.ModuleReading.{module_of}
use Rattle.object_file.specs.declared.object.Object.{Object}
use Rattle.round_rules.specs.Rounds.{Candidate, load}
use Rattle.made_symbols.specs.declared.mode.Mode.TheVariants.{Shared}
use Rattle.link_plan.specs.declared.plan.Plan.{Plan}
use Rattle.link_rules.specs.ModeOf.{mode_of}
use Rattle.link_rules.specs.Candidates.{candidates_of}
use Rattle.link_rules.specs.Program.{program_of}
use Rattle.link_rules.specs.Marks.{exported}
use Rattle.link_rules.specs.LinkOf.{asked_names, the_readers, link_of}
use Rattle.shared_worlds.specs.Placing.{Placing, placed_trace}
use Rattle.shared_worlds.specs.Worlds.{objects_trace}
use Rattle.shared_runs.specs.Links.{Agrees}

-- The bytes are read as a module, which under all bases that agree with its section, for each session, each number of entries of the table and each number of steps has the trace of the
-- loaded objects with nothing linked.
pub record SharedRuns (plan : Plan) (files : List (List ℕ)) (bytes : List ℕ) : Type 0 where
  pub all : List Candidate
  pub objects : List Object
  pub found : candidates_of the_readers plan files ≡ Ok all
  pub loaded : load Shared (asked_names plan) all ≡ Ok objects
  pub is : Module
  pub read : module_of bytes ≡ Ok is
  pub runs : (x : Placing) (n : ℕ) → Agrees x (program_of Shared plan files all objects) (exported Shared (program_of Shared plan files all objects))
      → objects_trace x (program_of Shared plan files all objects) (exported Shared (program_of Shared plan files all objects)) n ≡ placed_trace x is n

abbrev pub SharedLinksRun : Type 0
SharedLinksRun = (plan : Plan) (files : List (List ℕ)) (bytes : List ℕ)
    → length files ≡ unwrap_or plan.make_case (length plan.inputs) → mode_of plan ≡ Shared → link_of plan files ≡ Ok bytes → SharedRuns plan files bytes
