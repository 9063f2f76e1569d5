-- The plan of words, for a link that is like lld's or not.
use Rattle.std.proofs.Common.{◌≡◌, Bool, true, false, Result, Ok, Err, refl, ap}
use Rattle.wl_base.specs.declared.usage.Usage.{Usage as UsageFault}
use Rattle.link_plan.specs.declared.plan.Plan.{Plan}
use Rattle.link_plan.specs.Plan.{IsPlan}
use Rattle.link_words.specs.declared.error.WordError.{WordError}
use Rattle.link_words.specs.declared.error.WordError.TheVariants.{Usage, OutOfMemory}
use Rattle.link_words.specs.Words.{Reads}
use Rattle.link_command.specs.declared.asked.Asked.{Asked}
use Rattle.link_command.specs.Command.{as_lld, plan_for, said_for}

pub given : (like loose : Bool) (asked : Asked) (said : Result Plan UsageFault) (plan : Plan) → said ≡ Ok plan → said_for like loose asked said ≡ Ok (plan_for like loose asked plan)
given true loose asked said plan is = ap (as_lld loose asked) is
given false loose asked said plan is = is

pub refused : (like loose : Bool) (asked : Asked) (said : Result Plan UsageFault) (e : WordError) → Reads (Err e) said → Reads (Err e) (said_for like loose asked said)
refused true loose asked said (Usage u) is = ap (as_lld loose asked) is
refused false loose asked said (Usage u) is = is
refused like loose asked said OutOfMemory is = tt

pub sound : (like loose : Bool) (asked : Asked) (plan : Plan) → IsPlan plan → IsPlan (plan_for like loose asked plan)
sound true loose asked plan is = record {
  stack = is.stack;
  stack_small = is.stack_small;
  initial = is.initial;
  max = is.max;
  base = is.base;
  some_thread = is.some_thread;
  few_threads = is.few_threads;
  cases = is.cases;
  inputs = is.inputs;
}
sound false loose asked plan is = is

pub same_inputs : (like loose : Bool) (asked : Asked) (plan : Plan) → (plan_for like loose asked plan).inputs ≡ plan.inputs
same_inputs true loose asked plan = refl
same_inputs false loose asked plan = refl
