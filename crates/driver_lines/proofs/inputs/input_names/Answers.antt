use Rattle.std.proofs.Common.{arith}
use Rattle.driver_lines.proofs.Steps.{ended}
use Rattle.driver_lines.proofs.inputs.input_names.Goals as goal

pub returns : goal.returns
returns c =
    ended c.args.names.now c.args.files.now c.loop-at.all _ c.loop-at.at (omega (arith, c.min-at-end.ensures, c.loop-at-test.false)) c.loop-at.invariant
