-- Where all loaded objects of a link are valid, so is its output: of a shared link, and of any.
use Rattle.std.specs.Prelude.{◌≡◌, ◌==◌, ℕ, List, length, find, Some, unwrap_or, Ok}
use Rattle.list_places.specs.Has.{Has}
use Rattle.object_file.specs.declared.object.Object.{Object}
use Rattle.round_rules.specs.Rounds.{Candidate, load}
use Rattle.link_plan.specs.declared.plan.Plan.{Plan}
use Rattle.link_plan.specs.Plan.{IsPlan}
use Rattle.made_symbols.specs.declared.mode.Mode.TheVariants.{Shared}
use Rattle.link_rules.specs.ModeOf.{mode_of}
use Rattle.link_rules.specs.Candidates.{candidates_of}
use Rattle.link_rules.specs.LinkOf.{asked_names, the_readers, link_of}
use Rattle.shared_facts.specs.shared_links.link_facts.Facts.{bytes_of}
use Rattle.output_check.specs.Check.{IsValidOutput}
use Rattle.valid_objects.specs.Objects.{IsValidObject}

-- Each object that the link loads is valid in the bytes of its candidate.
abbrev pub AllValid : Plan → List (List ℕ) → Type 0
AllValid plan files = (all : List Candidate) (objects : List Object)
    → candidates_of the_readers plan files ≡ Ok all → load (mode_of plan) (asked_names plan) all ≡ Ok objects
    → (o : Object) (c : Candidate) → Has objects o → find (λ c. c.input == o.input) all ≡ Some c → IsValidObject o (bytes_of files c)

-- The bytes of a shared output are a valid module, so a check finds no fault in them.
abbrev pub SharedLinksAreValid : Type 0
SharedLinksAreValid = (plan : Plan) (files : List (List ℕ)) (bytes : List ℕ)
    → length files ≡ unwrap_or plan.make_case (length plan.inputs) → mode_of plan ≡ Shared → AllValid plan files → link_of plan files ≡ Ok bytes → IsValidOutput bytes

-- The same of a plain output and of a shared one, by the mode that the plan asks for.
abbrev pub AllLinksAreValid : Type 0
AllLinksAreValid = (plan : Plan) (files : List (List ℕ)) (bytes : List ℕ)
    → IsPlan plan → length files ≡ unwrap_or plan.make_case (length plan.inputs) → AllValid plan files → link_of plan files ≡ Ok bytes → IsValidOutput bytes
