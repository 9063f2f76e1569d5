use Rattle.std.proofs.Common.{ap}
use Rattle.driver_lines.specs.Called.{called_texts}
use Rattle.driver_lines.specs.Lines.{part_line}
use Rattle.driver_lines.proofs.Said.{said}
use Rattle.driver_lines.proofs.refusal.say_malformed.Goals as goal

pub returns-in-Section : goal.returns-in-Section
returns-in-Section g c =
    said _ _ _ _ _ (ap (part_line c.args.program.now (called_texts c.args.input)) c.in-Section.is) c.say_about-in-Section.ensures
