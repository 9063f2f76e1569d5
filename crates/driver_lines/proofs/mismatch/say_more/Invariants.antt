use Rattle.std.proofs.Common.{take}
use Rattle.std.specs.List.{flat_map}
use Rattle.wl_outside.specs.Sink.{Added}
use Rattle.driver_lines.specs.Mismatch.{next_text}
use Rattle.driver_lines.proofs.mismatch.say_more.Given as goal

abbrev pub invariant-loop-t : goal.invariant-loop-t
invariant-loop-t g l = Added (flat_map next_text (take l.t-index l.types)) (g.E.Sink.told l.initial.say) (g.E.Sink.told l.say)
