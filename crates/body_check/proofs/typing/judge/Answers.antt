use Rattle.body_check.proofs.Judges.{of_body, told_as}
use Rattle.body_check.proofs.typing.judge.Goals as goal

pub returns-in-Ok : goal.returns-in-Ok
returns-in-Ok c =
    told_as c.judge_behind.result _ _
    (of_body c.args.context.now c.args.kind.now c.in-Ok.locals c.as_slice.result.now c.args.bytes.now c.in-Ok.rest.now c.as_slice.ensures c.in-Ok.ensures) c.judge_behind.ensures
