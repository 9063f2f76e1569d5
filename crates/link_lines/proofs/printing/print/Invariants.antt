use Rattle.std.proofs.Common.{take}
use Rattle.std.specs.List.{flat_map}
use Rattle.wl_outside.specs.Sink.{Added}
use Rattle.link_lines.specs.Pieces.{piece_bytes}
use Rattle.link_lines.proofs.printing.print.Given as goal

abbrev pub invariant-loop-piece : goal.invariant-loop-piece
invariant-loop-piece g l = Added (flat_map piece_bytes (take l.piece-index l.pieces)) (g.E.Sink.told l.initial.say) (g.E.Sink.told l.say)
