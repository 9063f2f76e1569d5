-- What a link answers where all objects that it loads are valid.
use Rattle.std.specs.Prelude.{◌≡◌, ℕ, List, IfOk, Result, Err}
use Rattle.link_output.specs.link_program.wl_base.declared.fault.InvalidAt.{InvalidAt}
use Rattle.link_output.specs.link_program.wl_base.declared.fault.Fault.TheVariants.{Invalid}
use Rattle.link_output.specs.link_program.link_plan.declared.plan.Plan.{Plan}
use Rattle.link_output.specs.link_program.declared.error.LinkError.{LinkError}
use Rattle.link_output.specs.link_program.declared.error.LinkError.TheVariants.{Refused}
use Rattle.valid_shared_links.specs.valid_links.output_check.Check.{IsValidOutput}
use Rattle.link_core.specs.Answers.{Answers}
use Rattle.link_core.specs.Linked.{unchecked}

-- The check refuses nothing: the answer is that of the link without it, and never the fault of the check. And the bytes that are given spell
-- a valid module.
pub record KeepsValid (plan : Plan) (files : List (List ℕ)) (answer : Result (List ℕ) LinkError) : Type 0 where
  pub passes : Answers answer (unchecked plan files)
  pub never : (at : InvalidAt) → answer ≡ Err (Refused (Invalid at)) → ⊥
  pub valid : IfOk answer IsValidOutput
