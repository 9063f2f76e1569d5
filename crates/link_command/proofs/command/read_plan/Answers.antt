use Rattle.std.proofs.Common.{◌<◌, ap, sym, subst, ◌∙◌, Ok, All, length}
use Rattle.link_plan.specs.Plan.{IsPlan}
use Rattle.link_words.specs.Words.{plan_of}
use Rattle.link_plan.specs.declared.plan.InputWord.{InputWord}
use Rattle.link_plan.specs.declared.plan.Plan.{Plan}
use Rattle.link_command.proofs.Planned.{given, refused, sound, same_inputs}
use Rattle.link_command.proofs.command.read_plan.Goals as goal

pub returns-in-Ok-plan_for-clause-plan : goal.returns-in-Ok-plan_for-clause-plan
returns-in-Ok-plan_for-clause-plan c = given c.args.like_lld c.args.loose_calls c.args.asked.now (plan_of c.args.words.now) c.in-Ok.plan c.in-Ok.ensures.plan ∙ ap Ok (sym c.in-Ok-plan_for.ensures)

pub returns-in-Ok-plan_for-clause-numbers : goal.returns-in-Ok-plan_for-clause-numbers
returns-in-Ok-plan_for-clause-numbers c = subst IsPlan (sym c.in-Ok-plan_for.ensures) (sound c.args.like_lld c.args.loose_calls c.args.asked.now c.in-Ok.plan c.in-Ok.ensures.numbers)

pub returns-in-Ok-plan_for-clause-places : goal.returns-in-Ok-plan_for-clause-places
returns-in-Ok-plan_for-clause-places c =
    subst (λ (p : Plan). All (λ (i : InputWord). i.place < length c.args.words.now) p.inputs) (sym c.in-Ok-plan_for.ensures)
    (subst (All (λ (i : InputWord). i.place < length c.args.words.now)) (sym (same_inputs c.args.like_lld c.args.loose_calls c.args.asked.now c.in-Ok.plan)) c.in-Ok.ensures.places)

pub returns-in-Err-clause-plan : goal.returns-in-Err-clause-plan
returns-in-Err-clause-plan c = refused c.args.like_lld c.args.loose_calls c.args.asked.now (plan_of c.args.words.now) c.in-Err.error c.in-Err.ensures.plan
