use Rattle.std.proofs.Common.{◌≡◌, ◌-◌, ◌∷◌}
use Rattle.std.specs.Prelude.{replicate}
use Rattle.program_tables.specs.Pieces.{no_piece}
use Rattle.program_tables.proofs.making.new_pieces.Given as goal

abbrev pub invariant-loop-worker : goal.invariant-loop-worker
invariant-loop-worker l = l.pieces.items ≡ l.fn.first ∷ replicate (l._worker - 1) no_piece
