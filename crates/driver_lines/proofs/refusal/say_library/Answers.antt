use Rattle.std.proofs.Common.{ap}
use Rattle.driver_lines.specs.Called.{called_texts}
use Rattle.driver_lines.specs.Lines.{library_line}
use Rattle.driver_lines.proofs.Said.{said}
use Rattle.driver_lines.proofs.refusal.say_library.Goals as goal

pub returns-in-BadHeader : goal.returns-in-BadHeader
returns-in-BadHeader g c =
    said _ _ _ _ _ (ap (library_line c.args.program.now (called_texts c.args.file)) c.in-BadHeader.is) c.say_about-in-BadHeader.ensures

pub returns-in-BadIndex : goal.returns-in-BadIndex
returns-in-BadIndex g c =
    said _ _ _ _ _ (ap (library_line c.args.program.now (called_texts c.args.file)) c.in-BadIndex.is) c.say_about-in-BadIndex.ensures
