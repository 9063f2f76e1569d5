-- Where all loaded objects of a link are valid, so is its output.
use Rattle.std.specs.Prelude.{◌≡◌, ◌==◌, ℕ, List, length, find, Some, unwrap_or, Ok, Err}
use Rattle.list_places.specs.Has.{Has}
use Rattle.object_file.specs.wl_base.declared.fault.InvalidAt.{InvalidAt}
use Rattle.object_file.specs.wl_base.declared.fault.Fault.TheVariants.{Invalid}
use Rattle.object_file.specs.declared.object.Object.{Object}
use Rattle.link_runs.specs.link_facts.link_worlds.link_rules.round_rules.Rounds.{Candidate, load}
use Rattle.link_plan.specs.declared.plan.Plan.{Plan}
use Rattle.link_plan.specs.Plan.{IsPlan}
use Rattle.made_symbols.specs.declared.mode.Mode.TheVariants.{Plain}
use Rattle.link_runs.specs.link_facts.link_worlds.link_rules.Candidates.{candidates_of}
use Rattle.link_runs.specs.link_facts.link_worlds.link_rules.ModeOf.{IsPlain}
use Rattle.link_runs.specs.link_facts.link_worlds.link_rules.LinkOf.{asked_names, the_readers, link_of}
use Rattle.link_runs.specs.link_facts.Facts.{bytes_of}
use Rattle.output_check.specs.Check.{IsValidOutput}
use Rattle.output_types.specs.valid_objects.Objects.{IsValidObject}

-- Each object that the link loads is valid in the bytes of its candidate.
abbrev pub AllValid : Plan → List (List ℕ) → Type 0
AllValid plan files = (all : List Candidate) (objects : List Object)
    → candidates_of the_readers plan files ≡ Ok all → load Plain (asked_names plan) all ≡ Ok objects
    → (o : Object) (c : Candidate) → Has objects o → find (λ c. c.input == o.input) all ≡ Some c → IsValidObject o (bytes_of files c)

-- The bytes of a plain output are a valid module, so a check finds no fault in them.
abbrev pub LinksAreValid : Type 0
LinksAreValid = (plan : Plan) (files : List (List ℕ)) (bytes : List ℕ)
    → IsPlan plan → length files ≡ unwrap_or plan.make_case (length plan.inputs) → IsPlain plan → AllValid plan files → link_of plan files ≡ Ok bytes → IsValidOutput bytes

-- The fault of the check is none of the link's own, of a plain output or of a shared one.
abbrev pub LinksDontJudge : Type 0
LinksDontJudge = (plan : Plan) (files : List (List ℕ)) (at : InvalidAt) → link_of plan files ≡ Err (Invalid at) → ⊥
