-- The plan of a partial link keeps to the ranges of plans.
use Rattle.std.proofs.Common.{refl, arith}
use Rattle.link_plan.specs.declared.plan.Plan.{Plan}
use Rattle.link_plan.specs.Plan.{IsPlan}
use Rattle.link_program.specs.link_rules.LinkOf.{asked_names}
use Rattle.partial_rules.specs.PartialLink.{bare}
use Rattle.partial_inputs.specs.Refused.{IsBare}

pub bare_is_plan : (plan : Plan) → IsPlan plan → IsPlan (bare plan)
bare_is_plan plan is = record {
  stack = refl;
  stack_small = grind arith;
  initial = (refl, grind arith);
  max = tt;
  base = tt;
  some_thread = is.some_thread;
  few_threads = is.few_threads;
  cases = tt;
  inputs = is.inputs;
}

pub bare_is_bare : (plan : Plan) → IsBare (bare plan)
unfolding asked_names
bare_is_bare plan = record { plain = refl; given = refl; strict = refl; asked = refl }
