use Rattle.std.proofs.Common.{sym, subst, ◌∙◌}
use Rattle.link_core.specs.Answers.{Answers}
use Rattle.link_core.specs.Telling.{Tells}
use Rattle.link_core.specs.Whole.{told_calls}
use Rattle.link_core.proofs.Joined.{whole_partial, whole_module, told_partial, told_module}
use Rattle.link_core.proofs.Listing.{tells_all}
use Rattle.link_core.proofs.whole.link_telling.Goals as goal

pub returns-then-plan-clause-exact : goal.returns-then-plan-clause-exact
returns-then-plan-clause-exact g c =
    subst (Answers c.join-joined.result) (sym (whole_partial c.args.plan.now c.args.files.now c.if-plan.true)) c.join-joined.ensures.exact

pub returns-then-plan-clause-told : goal.returns-then-plan-clause-told
returns-then-plan-clause-told g c = λ none.
    tells_all c.join-joined.result c.args.told.now (told_calls c.args.plan.now c.args.files.now) (none ∙ sym (told_partial c.args.plan.now c.args.files.now c.if-plan.true))

pub returns-clause-exact : goal.returns-clause-exact
returns-clause-exact g c =
    subst (Answers c.module_telling-answer.result) (sym (whole_module c.args.plan.now c.args.files.now c.if-plan.false)) c.module_telling-answer.ensures.exact

pub returns-clause-told : goal.returns-clause-told
returns-clause-told g c = λ none.
    subst (Tells c.module_telling-answer.result c.module_telling-answer.new.told) (sym (told_module c.args.plan.now c.args.files.now c.if-plan.false))
    (c.module_telling-answer.ensures.told none)
