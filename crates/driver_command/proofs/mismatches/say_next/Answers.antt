use Rattle.std.proofs.Common.{[], ◌∷◌}
use Rattle.std.specs.Prelude.{codes}
use Rattle.link_lines.specs.Pieces.{joined}
use Rattle.driver_lines.proofs.Parts.{last, stops_first}
use Rattle.driver_command.specs.Mismatched.{line_of}
use Rattle.driver_command.proofs.mismatches.say_next.Goals as goal

pub returns-in_err-print : goal.returns-in_err-print
returns-in_err-print g c =
    stops_first (joined (codes "\n" ∷ [])) (line_of c.args.program.now c.args.word.now c.args.inputs.now c.args.told.now) c.from_residual.result _ _ c.from_residual.ensures.0 c.in_err-print.ensures

pub returns : goal.returns
returns g c =
    last (joined (codes "\n" ∷ [])) (line_of c.args.program.now c.args.word.now c.args.inputs.now c.args.told.now) c.say_one.result _ _ _ c.in_ok-print.ensures c.say_one.ensures
