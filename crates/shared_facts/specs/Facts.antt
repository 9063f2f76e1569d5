-- A link that gives a shared output makes sure of all that its module's types ask.
use Rattle.std.specs.Prelude.{◌≡◌, ℕ, List, length, unwrap_or, Ok}
use Rattle.object_file.specs.declared.object.Object.{Object}
use Rattle.round_rules.specs.Rounds.{Candidate, load}
use Rattle.link_plan.specs.declared.plan.Plan.{Plan}
use Rattle.made_symbols.specs.declared.mode.Mode.TheVariants.{Shared}
use Rattle.link_rules.specs.ModeOf.{mode_of}
use Rattle.link_rules.specs.Candidates.{candidates_of}
use Rattle.link_rules.specs.Program.{program_of}
use Rattle.link_rules.specs.Marks.{exported}
use Rattle.link_rules.specs.LinkOf.{asked_names, the_readers, link_of}
use Rattle.shared_types.specs.Linked.{SharedLinkedBy}

abbrev pub SharedFactsHold : Type 0
SharedFactsHold = (plan : Plan) (files : List (List ℕ)) (bytes : List ℕ) (all : List Candidate) (objects : List Object)
    → length files ≡ unwrap_or plan.make_case (length plan.inputs) → mode_of plan ≡ Shared
    → candidates_of the_readers plan files ≡ Ok all → load Shared (asked_names plan) all ≡ Ok objects → link_of plan files ≡ Ok bytes
    → SharedLinkedBy (program_of Shared plan files all objects) (exported Shared (program_of Shared plan files all objects))
