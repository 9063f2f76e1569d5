-- The output of a link runs as the plan and the files tell, said of the definition of the whole link.
use Rattle.std.specs.Prelude.{◌≡◌, ℕ, List, length, unwrap_or, Ok}
use Rattle.object_file.specs.declared.object.Object.{Object}
use Rattle.round_rules.specs.Rounds.{Candidate, load}
use Rattle.link_plan.specs.declared.plan.Plan.{Plan}
use Rattle.link_plan.specs.Plan.{IsPlan}
use Rattle.made_symbols.specs.declared.mode.Mode.TheVariants.{Plain}
use Rattle.link_output.specs.link_rules.Candidates.{candidates_of}
use Rattle.link_output.specs.link_rules.ModeOf.{IsPlain}
use Rattle.link_output.specs.link_rules.LinkOf.{asked_names, the_readers, link_of}
use Rattle.link_output.specs.link_rules.Marks.{exported}
use Rattle.link_output.specs.link_rules.Program.{program_of}
use Rattle.link_runs.specs.Runs.{Gives}

-- The bytes are read as a module that runs as the plan and the files tell: for each session that gives an imported memory enough pages, and
-- each number of steps, its trace is that of the loaded objects with nothing linked.
pub record Runs (plan : Plan) (files : List (List ℕ)) (bytes : List ℕ) : Type 0 where
  pub all : List Candidate
  pub objects : List Object
  pub found : candidates_of the_readers plan files ≡ Ok all
  pub loaded : load Plain (asked_names plan) all ≡ Ok objects
  pub gives : Gives (program_of Plain plan files all objects) (exported Plain (program_of Plain plan files all objects)) bytes

-- So does each module that a link gives where the plan asks for a plain output. What a shared one does hangs on its loader.
abbrev pub LinksRun : Type 0
LinksRun = (plan : Plan) (files : List (List ℕ)) (bytes : List ℕ)
    → IsPlan plan → length files ≡ unwrap_or plan.make_case (length plan.inputs) → link_of plan files ≡ Ok bytes → IsPlain plan → Runs plan files bytes
