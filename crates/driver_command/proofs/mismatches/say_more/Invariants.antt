use Rattle.std.proofs.Common.{take}
use Rattle.std.specs.List.{flat_map}
use Rattle.wl_outside.specs.Sink.{Added}
use Rattle.driver_command.specs.Mismatched.{next_lines}
use Rattle.driver_command.proofs.mismatches.say_more.Given as goal

abbrev pub invariant-loop-mismatch : goal.invariant-loop-mismatch
invariant-loop-mismatch g l = Added (flat_map (next_lines l.program l.word l.inputs) (take l.mismatch-index l.told)) (g.E.Sink.told l.initial.say) (g.E.Sink.told l.say)
