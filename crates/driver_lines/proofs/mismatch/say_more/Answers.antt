use Rattle.driver_lines.specs.Mismatch.{next_text}
use Rattle.driver_lines.proofs.Parts.{stopped_at}
use Rattle.driver_lines.proofs.mismatch.say_more.Goals as goal

pub returns-in_err-say_next : goal.returns-in_err-say_next
returns-in_err-say_next g c =
    stopped_at next_text c.args.types.now c.loop-t.t-index _ _ _ _ c.from_residual.result c.from_residual.ensures.0 c.loop-t-test.true c.loop-t.invariant c.in_err-say_next.ensures
