-- The same of the definition of the whole link.
use Rattle.std.specs.Prelude.{◌≡◌, ℕ, List, length, unwrap_or, Ok}
use Rattle.object_file.specs.declared.object.Object.{Object}
use Rattle.round_rules.specs.Rounds.{Candidate, load}
use Rattle.link_plan.specs.declared.plan.Plan.{Plan}
use Rattle.made_symbols.specs.declared.mode.Mode.TheVariants.{Plain}
use Rattle.name_rules.specs.Entries.{InputSymbol}
use Rattle.link_rules.specs.Candidates.{candidates_of}
use Rattle.link_rules.specs.ModeOf.{IsPlain}
use Rattle.link_rules.specs.LinkOf.{asked_names, the_readers, link_of}
use Rattle.link_rules.specs.Marks.{live, exported}
use Rattle.link_rules.specs.Program.{Program, program_of}
use Rattle.link_worlds.specs.Worlds.{layout_of}
use Rattle.key_laws.specs.Differ.{AllDiffer}
use Rattle.key_laws.specs.Standing.{AllStand}

-- Each number is that of one key, and each key that is named has one.
pub record AreNumbered (p : Program) (exports : List InputSymbol) : Type 0 where
  pub differ : AllDiffer (layout_of p exports)
  pub stand : AllStand p (live p exports) exports (layout_of p exports)

-- Where a link gives bytes.
abbrev pub LinksNumber : Type 0
LinksNumber = (plan : Plan) (files : List (List ℕ)) (bytes : List ℕ) (all : List Candidate) (objects : List Object)
    → length files ≡ unwrap_or plan.make_case (length plan.inputs) → IsPlain plan
    → candidates_of the_readers plan files ≡ Ok all → load Plain (asked_names plan) all ≡ Ok objects → link_of plan files ≡ Ok bytes
    → AreNumbered (program_of Plain plan files all objects) (exported Plain (program_of Plain plan files all objects))
