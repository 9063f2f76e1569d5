use Rattle.std.proofs.Common.{◌≡◌, ◌++◌}
use Rattle.std.specs.Prelude.{flat_map}
use Rattle.std.specs.Vec.Iter.{into_iter_items, into_iter_len}
use Rattle.program_tables.specs.declared.pieces.Piece.{Piece}
use Rattle.program_tables.proofs.joining.put_together.Given as goal

abbrev pub invariant-loop-piece : goal.invariant-loop-piece
invariant-loop-piece l = record {
  parts : l.parts ++ flat_map (λ (p : Piece). p.parts) (into_iter_items l.left) ≡ flat_map (λ (p : Piece). p.parts) l.fn.pieces.items;
  named : l.named ++ flat_map (λ (p : Piece). p.named) (into_iter_items l.left) ≡ flat_map (λ (p : Piece). p.named) l.fn.pieces.items;
}

abbrev pub decreases-loop-piece : goal.decreases-loop-piece
decreases-loop-piece l = into_iter_len l.left
