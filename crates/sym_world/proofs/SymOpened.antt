-- What the steps of a link answer, where the plan asks for a plain output.
use Rattle.std.proofs.Common.{◌≡◌, ◌∙◌, List, ℕ, ap, subst, Result, Ok}
use Rattle.link_program.specs.made_symbols.declared.mode.Mode.TheVariants.{Plain}
use Rattle.link_program.specs.round_rules.Rounds.{load}
use Rattle.link_program.specs.link_plan.declared.plan.Plan.{Plan}
use Rattle.link_program.specs.link_rules.ModeOf.{mode_of}
use Rattle.link_program.specs.link_rules.Program.{program_of}
use Rattle.link_program.specs.link_rules.LinkOf.{asked_names}
use Rattle.link_program.specs.declared.error.LinkError.{LinkError}
use Rattle.link_program.specs.Answers.{Fails}
use Rattle.link_program.specs.Loaded.{the_candidates}
use Rattle.link_inputs.specs.Inputs.{loaded_of}
use Rattle.link_inputs.specs.Loaded.{AreInputs}
use Rattle.link_inputs.specs.declared.inputs.Inputs.{Inputs}
use Rattle.link_core.specs.Loading.{Loading, program_in}

pub given : (plan : Plan) (files : List (List ℕ)) (i : Inputs) → mode_of plan ≡ Plain → AreInputs (mode_of plan) plan files i
    → load Plain (asked_names plan) (the_candidates plan files) ≡ Ok i.loaded
given plan files i plain are = subst (λ m. load m (asked_names plan) (the_candidates plan files) ≡ Ok i.loaded) plain are.objects

pub not_given : (plan : Plan) (files : List (List ℕ)) (e : LinkError) → mode_of plan ≡ Plain → Fails e (loaded_of (mode_of plan) plan files) → Fails e (loaded_of Plain plan files)
not_given plan files e plain fails = subst (λ m. Fails e (loaded_of m plan files)) plain fails

pub plain_in : (l : Loading) (plan : Plan) → l.origin.plan ≡ plan → mode_of plan ≡ Plain → mode_of (program_in l).plan ≡ Plain
unfolding program_of
plain_in l plan same plain = ap mode_of same ∙ plain
