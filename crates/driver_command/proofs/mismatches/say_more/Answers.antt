use Rattle.driver_lines.proofs.Parts.{stopped}
use Rattle.driver_command.specs.Mismatched.{next_lines}
use Rattle.driver_command.proofs.mismatches.say_more.Goals as goal

pub returns-in_err-say_next : goal.returns-in_err-say_next
returns-in_err-say_next g c =
    stopped (next_lines c.args.program.now c.args.word.now c.args.inputs.now) c.args.told.now c.loop-mismatch.mismatch-index c.mismatch-item.result _ _ _ c.from_residual.result c.from_residual.ensures.0
    c.loop-mismatch-test.true c.mismatch-item.is c.loop-mismatch.invariant c.in_err-say_next.ensures
