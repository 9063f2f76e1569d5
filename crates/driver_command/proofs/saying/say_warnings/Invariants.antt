use Rattle.std.proofs.Common.{take}
use Rattle.std.specs.List.{flat_map}
use Rattle.wl_outside.specs.Sink.{Added}
use Rattle.driver_lines.specs.Lines.{warning_line}
use Rattle.driver_command.proofs.saying.say_warnings.Given as goal

abbrev pub invariant-loop-warning : goal.invariant-loop-warning
invariant-loop-warning g l = Added (flat_map (warning_line l.program) (take l.warning-index l.warnings)) (g.E.Sink.told l.initial.say) (g.E.Sink.told l.say)
