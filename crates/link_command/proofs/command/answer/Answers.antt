use Rattle.link_command.specs.Command.{planned}
use Rattle.link_command.proofs.Telling.{planned_tells}
use Rattle.link_command.proofs.command.answer.Goals as goal

pub returns-in-Ok-clause-told : goal.returns-in-Ok-clause-told
returns-in-Ok-clause-told g c = λ none.
    planned_tells (planned c.args.like_lld c.args.loose_calls c.args.asked.now c.args.words.now) c.in-Ok.plan c.run_plan.result.status (g.F.Shelf.shown c.args.shelf.now) c.args.words.now c.run_plan.new.told c.in-Ok.ensures.plan
    (c.run_plan.ensures.told none)
