-- The whole link: one relocatable object, or a module.
use Rattle.std.specs.Prelude.{◌≡◌, ℕ, false, List, [], if◌then◌else◌, Result}
use Rattle.link_output.specs.link_program.wl_base.declared.fault.Fault.{Fault}
use Rattle.link_output.specs.link_program.link_plan.declared.plan.Plan.{Plan}
use Rattle.mismatch_rules.specs.declared.mismatch.Mismatch.{Mismatch}
use Rattle.called_variants.specs.Called.{calls_told_of}
use Rattle.partial_rules.specs.PartialLink.{partial_of}
use Rattle.link_core.specs.Linked.{linked}

-- A plan that asks for a partial link gets the object that joins its files; any other gets a module, checked and with sections behind it where it
-- asks for these.
unfoldable pub whole_link : Plan → List (List ℕ) → Result (List ℕ) Fault
whole_link plan files = if plan.partial then partial_of plan files else linked plan files

abbrev pub MakesModule : Plan → Type 0
MakesModule plan = plan.partial ≡ false

-- What is told of functions that are called by another type than their definition has. A partial link tells nothing: there such a name clashes.
unfoldable pub told_calls : Plan → List (List ℕ) → List Mismatch
told_calls plan files = if plan.partial then [] else calls_told_of plan files
