use Rattle.std.proofs.Common.{take}
use Rattle.std.specs.List.{flat_map}
use Rattle.wl_outside.specs.Sink.{Added}
use Rattle.link_lines.specs.Pieces.{escaped}
use Rattle.link_lines.proofs.piece.say_name.Given as goal

abbrev pub invariant-loop-byte : goal.invariant-loop-byte
invariant-loop-byte g l = Added (flat_map escaped (take l.byte-index l.name)) (g.E.Sink.told l.initial.say) (g.E.Sink.told l.say)
