-- Where a link gives bytes, the machine of modules and the machine of objects both give the trace of the plan and the files.
use Rattle.std.specs.Prelude.{◌≡◌, ℕ, List, length, unwrap_or, Ok}
use Rattle.object_file.specs.declared.object.Object.{Object}
use Rattle.round_rules.specs.Rounds.{Candidate, load}
use Rattle.link_plan.specs.declared.plan.Plan.{Plan}
use Rattle.link_plan.specs.Plan.{IsPlan}
use Rattle.made_symbols.specs.declared.mode.Mode.TheVariants.{Plain}
use Rattle.name_rules.specs.Entries.{InputSymbol}
use Rattle.run_rules.specs.declared.session.Session.{Session}
use Rattle.link_rules.specs.Candidates.{candidates_of}
use Rattle.link_rules.specs.ModeOf.{IsPlain}
use Rattle.link_rules.specs.LinkOf.{asked_names, the_readers, link_of}
use Rattle.link_rules.specs.Marks.{exported}
use Rattle.link_rules.specs.Program.{Program, program_of}
use Rattle.link_worlds.specs.Worlds.{layout_of, plan_trace}
use Rattle.link_runs.specs.link_facts.Faults.{Enough}
use Rattle.run_machines.specs.declared.outcome.Run.TheVariants.{Traced}
use Rattle.run_machines.specs.Runs.{run_of_bytes}
use Rattle.run_machines.specs.Sym.{run_of_sym}
use Rattle.run_laws.specs.Objects.{objects_of}

-- The bytes are a module whose segments fit, and `run_mod` gives its trace.
abbrev pub ModuleRuns : Program → List InputSymbol → List ℕ → Type 0
ModuleRuns p exports bytes = (s : Session) (n : ℕ) → Enough s (layout_of p exports) → run_of_bytes s bytes n ≡ Traced (plan_trace s p exports n)

-- The segments of the objects fit, and `run_sym` gives this trace too.
abbrev pub ObjectsRun : Program → List InputSymbol → Type 0
ObjectsRun p exports = (s : Session) (n : ℕ) → Enough s (layout_of p exports) → run_of_sym s (objects_of p exports) n ≡ Traced (plan_trace s p exports n)

-- The same of the objects that a link loads.
pub record Agree (plan : Plan) (files : List (List ℕ)) (bytes : List ℕ) : Type 0 where
  pub all : List Candidate
  pub objects : List Object
  pub found : candidates_of the_readers plan files ≡ Ok all
  pub loaded : load Plain (asked_names plan) all ≡ Ok objects
  pub runs : ModuleRuns (program_of Plain plan files all objects) (exported Plain (program_of Plain plan files all objects)) bytes
  pub same : ObjectsRun (program_of Plain plan files all objects) (exported Plain (program_of Plain plan files all objects))

-- So it is of each link that gives bytes.
abbrev pub TracesAgree : Type 0
TracesAgree = (plan : Plan) (files : List (List ℕ)) (bytes : List ℕ)
    → IsPlan plan → length files ≡ unwrap_or plan.make_case (length plan.inputs) → IsPlain plan → link_of plan files ≡ Ok bytes → Agree plan files bytes
