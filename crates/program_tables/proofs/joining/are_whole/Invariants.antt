use Rattle.std.proofs.Common.{◌≡◌, ◌<◌, ℕ, false, Some}
use Rattle.std.specs.Prelude.{slice_get}
use Rattle.program_tables.specs.declared.pieces.Piece.{Piece}
use Rattle.program_tables.proofs.joining.are_whole.Given as goal

abbrev pub invariant-loop-piece : goal.invariant-loop-piece
invariant-loop-piece l = (k : ℕ) (p : Piece) → k < l.piece-index → slice_get l.pieces k ≡ Some p → p.is_short ≡ false
