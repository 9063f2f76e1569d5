use Rattle.name_entries.specs.Pieces.{IsPiece}
use Rattle.name_entries.proofs.pieces.Piece.of.Given as goal

abbrev pub invariant-loop-object : goal.invariant-loop-object
invariant-loop-object l = IsPiece l.objects l.names.symbols l.from l.object (record { parts = l.parts; rows = l.rows })
