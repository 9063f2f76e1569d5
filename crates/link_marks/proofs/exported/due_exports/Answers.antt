use Rattle.std.proofs.Common.{◌∙◌, ap, filter, map}
use Rattle.link_program.specs.Told.{told_winner}
use Rattle.link_program.specs.link_rules.Marks.{exports_with}
use Rattle.link_marks.specs.Due.{is_due}
use Rattle.link_marks.proofs.Working.{calls_are, due_are}
use Rattle.link_marks.proofs.exported.due_exports.Goals as goal

pub returns : goal.returns
returns g c =
    c.in_ok-exports.ensures
    ∙ (λ i. filter (is_due (c.deref.ensures.value i) c.args.program.plan.now.export_dynamic c.has_calls-calls.result c.args.work) (c.as_slice-winners.ensures i))
    ∙ due_are c.args.program g.p c.in_ok-asked.asked.items c.has_calls-calls.result c.args.work c.requires c.in_ok-asked.ensures
    ∙ ap (λ calls. map (told_winner c.args.program.names.now.names) (exports_with g.p calls c.args.work)) (c.has_calls-calls.ensures ∙ calls_are c.args.program g.p c.requires)
