-- The line of what was linked.
use Rattle.std.proofs.Common.{◌≡◌, ◌⊎◌, inl, inr, ℕ, List, Option, Some, None, refl, sym, ap, ◌∙◌, subst, arith}
use Rattle.std.specs.Prelude.{Ok}
use Rattle.std.specs.Option.{option_map}
use Rattle.wl_outside.specs.Shelf.{Shown}
use Rattle.link_plan.specs.declared.plan.Plan.{Plan}
use Rattle.link_core.specs.Whole.{whole_link}
use Rattle.case_objects.specs.Objects.{objects}
use Rattle.link_lines.specs.declared.case_line.CaseSummary.{CaseSummary}
use Rattle.link_command.specs.declared.status.Status.{Status}
use Rattle.link_command.specs.declared.status.Status.TheVariants.{Linked, WriteFault}
use Rattle.link_command.specs.Command.{IsTold, files_of}
use Rattle.link_command.specs.Ending.{ending_line, summary_line, summary_of}
use Rattle.link_command.specs.Line.{status_line, linked_line, summed_line}

linked_is : (case : Option ℕ) (plan : Plan) (before : Shown) (words files : List (List ℕ)) (bytes : List ℕ) (told : Option CaseSummary)
    → told ≡ option_map (summary_of bytes) case → (IsTold case before → files_of case before words plan ≡ Some files) → whole_link plan files ≡ Ok bytes
    → summary_line told ≡ linked_line case plan
linked_is (Some n) plan before words files bytes told is held link =
    let same : objects n ≡ files = (let h = held tt in grind arith) in
    ap summary_line is ∙ sym (ap (summed_line n) (ap (whole_link plan) same ∙ link))
linked_is None plan before words files bytes told is held link = ap summary_line is

-- the line of an answer after a save
pub line_is : (status : Status) (plan : Plan) (before : Shown) (words files : List (List ℕ)) (bytes : List ℕ) (told : Option CaseSummary) → (status ≡ Linked) ⊎ (status ≡ WriteFault)
    → told ≡ option_map (summary_of bytes) plan.make_case → (IsTold plan.make_case before → files_of plan.make_case before words plan ≡ Some files) → whole_link plan files ≡ Ok bytes
    → ending_line status told ≡ status_line (Ok plan) status
line_is status plan before words files bytes told (inl done) is held link =
    subst (λ (s : Status). ending_line s told ≡ status_line (Ok plan) s) (sym done) (linked_is plan.make_case plan before words files bytes told is held link)
line_is status plan before words files bytes told (inr torn) is held link =
    subst (λ (s : Status). ending_line s told ≡ status_line (Ok plan) s) (sym torn) refl
