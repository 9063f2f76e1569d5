-- What the debug sections behind the output of a link leave as it was (WebAssembly Core 2.0, 5.5.3).
use Rattle.std.specs.Prelude.{◌≡◌, ℕ, false, List, ◌++◌, Ok}
use Rattle.valid_links.specs.link_runs.link_program.wasm_module.Sections.{AreCustoms}
use Rattle.valid_links.specs.link_runs.link_program.link_plan.declared.plan.Plan.{Plan}
use Rattle.valid_links.specs.link_runs.Links.{Runs}
use Rattle.valid_links.specs.link_runs.link_program.link_rules.LinkOf.{link_of}
use Rattle.valid_links.specs.output_check.Check.{IsValidOutput}
use Rattle.debug_tails.specs.Tails.{debug_tail, with_debug}

-- They are custom sections, one behind another, or none.
abbrev pub TailIsCustoms : Type 0
TailIsCustoms = (plan : Plan) (files : List (List ℕ)) (len : ℕ) (tail : List ℕ) → debug_tail plan files len ≡ Ok tail → AreCustoms tail

-- With them an output that is valid stays the same module, and valid.
abbrev pub ValidStays : Type 0
ValidStays = (plan : Plan) (files : List (List ℕ)) (bytes whole : List ℕ) → IsValidOutput bytes → with_debug plan files bytes ≡ Ok whole → IsValidOutput whole

-- Bytes with custom sections behind them, whatever these are, are read as a module that runs as the plan and the files tell, where those
-- without are.
abbrev pub TailsRun : Type 0
TailsRun = (plan : Plan) (files : List (List ℕ)) (bytes tail : List ℕ) → Runs plan files bytes → AreCustoms tail → Runs plan files (bytes ++ tail)

-- With its debug sections an output runs as it did.
abbrev pub RunsStay : Type 0
RunsStay = (plan : Plan) (files : List (List ℕ)) (bytes whole : List ℕ) → Runs plan files bytes → with_debug plan files bytes ≡ Ok whole → Runs plan files whole

-- Where the words don't ask for them, an output is what it was.
abbrev pub NoWord : Type 0
NoWord = (plan : Plan) (files : List (List ℕ)) (bytes : List ℕ) → plan.keep_debug ≡ false → link_of plan files ≡ Ok bytes → with_debug plan files bytes ≡ Ok bytes
