use Rattle.std.proofs.Common.{ap}
use Rattle.driver_lines.specs.Lines.{invalid_line}
use Rattle.driver_lines.proofs.Said.{said}
use Rattle.driver_lines.proofs.refusal.say_invalid.Goals as goal

pub returns-in-Body : goal.returns-in-Body
returns-in-Body g c = said _ _ _ _ _ (ap (invalid_line c.args.program.now) c.in-Body.is) c.say_plain-in-Body.ensures
