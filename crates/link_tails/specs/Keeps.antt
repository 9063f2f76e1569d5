-- What stands behind the output of a link leaves it as it was (WebAssembly Core 2.0, 5.5.3).
use Rattle.std.specs.Prelude.{◌≡◌, ℕ, true, false, List, ◌++◌, length, unwrap_or, None, Ok}
use Rattle.debug_links.specs.valid_links.link_runs.link_program.wasm_module.Sections.{AreCustoms}
use Rattle.debug_links.specs.valid_links.link_runs.link_program.link_plan.declared.plan.Plan.{Plan}
use Rattle.debug_links.specs.valid_links.link_runs.link_program.link_rules.ModeOf.{IsPlain}
use Rattle.debug_links.specs.valid_links.link_runs.link_program.link_rules.LinkOf.{link_of}
use Rattle.debug_links.specs.valid_links.link_runs.Links.{Runs}
use Rattle.debug_links.specs.valid_links.output_check.Check.{IsValidOutput}
use Rattle.debug_links.specs.Offsets.{OffsetsKept}
use Rattle.link_tails.specs.Tails.{whole_tail, with_tail}

-- They are custom sections, one behind another, or none.
abbrev pub TailIsCustoms : Type 0
TailIsCustoms = (plan : Plan) (files : List (List ℕ)) (len : ℕ) (tail : List ℕ) → whole_tail plan files len ≡ Ok tail → AreCustoms tail

-- With them an output that is valid stays the same module, and valid.
abbrev pub ValidStays : Type 0
ValidStays = (plan : Plan) (files : List (List ℕ)) (bytes whole : List ℕ) → IsValidOutput bytes → with_tail plan files bytes ≡ Ok whole → IsValidOutput whole

-- With them an output runs as it did.
abbrev pub RunsStay : Type 0
RunsStay = (plan : Plan) (files : List (List ℕ)) (bytes whole : List ℕ) → Runs plan files bytes → with_tail plan files bytes ≡ Ok whole → Runs plan files whole

-- Places in functions are those of the same instructions, in a plain output that keeps its debug sections.
abbrev pub OffsetsStay : Type 0
OffsetsStay = (plan : Plan) (files : List (List ℕ)) (bytes whole : List ℕ) → length files ≡ unwrap_or plan.make_case (length plan.inputs) → IsPlain plan
    → plan.keep_debug ≡ true → link_of plan files ≡ Ok bytes → with_tail plan files bytes ≡ Ok whole → OffsetsKept plan files bytes whole

-- Where the words ask for none of them, an output is what it was.
abbrev pub NoWord : Type 0
NoWord = (plan : Plan) (files : List (List ℕ)) (bytes : List ℕ) → plan.keep_debug ≡ false → plan.names ≡ false → plan.features ≡ None
    → link_of plan files ≡ Ok bytes → with_tail plan files bytes ≡ Ok bytes
