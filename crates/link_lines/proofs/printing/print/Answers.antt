use Rattle.link_lines.specs.Pieces.{piece_bytes}
use Rattle.link_lines.proofs.Join.{stopped}
use Rattle.link_lines.proofs.printing.print.Goals as goal

pub returns-in_err-say : goal.returns-in_err-say
returns-in_err-say g c =
    stopped piece_bytes c.args.pieces.now c.loop-piece.piece-index c.piece-item.result _ _ _ c.from_residual.result c.from_residual.ensures.0
    c.loop-piece-test.true c.piece-item.is c.loop-piece.invariant c.in_err-say.ensures
