use Rattle.std.proofs.Common.{ap}
use Rattle.driver_lines.specs.Called.{called_texts}
use Rattle.driver_lines.specs.Lines.{feature_line}
use Rattle.driver_lines.proofs.Said.{said}
use Rattle.driver_lines.proofs.refusal.say_feature.Goals as goal

pub returns-in-Disallowed : goal.returns-in-Disallowed
returns-in-Disallowed g c =
    said _ _ _ _ _ (ap (feature_line c.args.program.now c.args.name.now (called_texts c.args.input) (called_texts c.args.by)) c.in-Disallowed.is) c.say_against.ensures

pub returns-in-Required : goal.returns-in-Required
returns-in-Required g c =
    said _ _ _ _ _ (ap (feature_line c.args.program.now c.args.name.now (called_texts c.args.input) (called_texts c.args.by)) c.in-Required.is) c.say_against-in-Required.ensures

pub returns-in-NotAllowed : goal.returns-in-NotAllowed
returns-in-NotAllowed g c =
    said _ _ _ _ _ (ap (feature_line c.args.program.now c.args.name.now (called_texts c.args.input) (called_texts c.args.by)) c.in-NotAllowed.is) c.say_named.ensures
