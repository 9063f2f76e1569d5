use Rattle.driver_lines.specs.Mismatch.{first_text, next_text}
use Rattle.driver_lines.proofs.Parts.{headed_stops, headed_said}
use Rattle.driver_lines.proofs.mismatch.say_params.Goals as goal

pub returns-in_err-say_first : goal.returns-in_err-say_first
returns-in_err-say_first g c =
    headed_stops first_text next_text c.args.types.now _ _ c.from_residual.result _ _ c.in-Some.ensures c.from_residual.ensures.0 c.in_err-say_first.ensures

pub returns : goal.returns
returns g c = headed_said first_text next_text c.args.types.now _ _ c.say_more.result _ _ _ c.in-Some.ensures c.in_ok-say_first.ensures c.say_more.ensures
