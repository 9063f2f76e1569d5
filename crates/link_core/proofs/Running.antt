-- What a link answers runs as its plan and files tell, and its debug sections say where its instructions are.
use Rattle.std.proofs.Common.{◌≡◌, ℕ, true, List, length}
use Rattle.std.specs.Prelude.{Result, Ok, Err, unwrap_or, IfOk}
use Rattle.link_plan.specs.declared.plan.Plan.{Plan}
use Rattle.link_plan.specs.Plan.{IsPlan}
use Rattle.link_output.specs.link_program.link_rules.ModeOf.{IsPlain}
use Rattle.link_output.specs.link_program.declared.error.LinkError.{LinkError}
use Rattle.valid_shared_links.specs.valid_links.link_runs.Links.{Runs, LinksRun}
use Rattle.link_tails.specs.Keeps.{RunsStay, OffsetsStay}
use Rattle.link_core.specs.Answers.{Answers}
use Rattle.link_core.specs.Linked.{linked}
use Rattle.link_core.specs.Places.{SaysPlaces}
use Rattle.link_core.proofs.Checking.{linked_parts}

pub runs_of : (plan : Plan) (files : List (List ℕ)) (answer : Result (List ℕ) LinkError) → LinksRun → RunsStay → IsPlan plan → length files ≡ unwrap_or plan.make_case (length plan.inputs)
    → IsPlain plan → Answers answer (linked plan files) → IfOk answer (λ bytes. Runs plan files bytes)
runs_of plan files (Ok whole) law stay fit long plain is =
    let p = linked_parts plan files whole is in
    stay plan files p.0 whole (law plan files p.0 fit long p.1 plain) p.2
runs_of plan files (Err e) law stay fit long plain is = tt

pub places_of : (plan : Plan) (files : List (List ℕ)) (answer : Result (List ℕ) LinkError) → OffsetsStay → length files ≡ unwrap_or plan.make_case (length plan.inputs)
    → IsPlain plan → Answers answer (linked plan files) → plan.keep_debug ≡ true → IfOk answer (SaysPlaces plan files)
places_of plan files (Ok whole) law long plain is kept =
    let p = linked_parts plan files whole is in
    (p.0, p.1, law plan files p.0 whole long plain kept p.1 p.2)
places_of plan files (Err e) law long plain is kept = tt
