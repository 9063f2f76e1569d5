use Rattle.std.proofs.Common.{◌≡◌, true, rules, length, subst, sym}
use Rattle.partial_bytes.specs.declared.pieces.Piece.{Piece}
use Rattle.partial_bytes.specs.Pieces.{fits}
use Rattle.partial_bytes.proofs.Placed.{piece_fits, piece_room, pieces_more, all_put}
use Rattle.partial_bytes.proofs.pieces.put_pieces.Goals as goal

pub put_piece-at-requires-clause-fits : goal.put_piece-at-requires-clause-fits
put_piece-at-requires-clause-fits c =
    subst (λ (q : Piece). fits q ≡ true) (sym c.q-item.is) (piece_fits c.args.pieces.now c.loop-q.q-index c.q-item.result c.loop-q-test.true c.loop-q.invariant.2).0

pub put_piece-at-requires-clause-room : goal.put_piece-at-requires-clause-room
put_piece-at-requires-clause-room c =
    piece_room c.args.pieces.now c.loop-q.q-index c.q-item.result c.loop-q-test.true c.q-item.is c.loop-q.at (length c.loop-q.out) c.loop-q.invariant.0

pub loop-q-preserved : goal.loop-q-preserved
loop-q-preserved c =
    pieces_more c.args.pieces.now c.loop-q.q-index c.q-item.result c.loop-q-test.true c.q-item.is c.loop-q.out c.put_piece-at.new.out _ c.loop-q.at c.put_piece-at.result
    c.put_piece-at.ensures c.loop-q.invariant

pub returns : goal.returns
returns c = all_put c.args.pieces.now c.loop-q.q-index c.loop-q.at c.loop-q.out _ (search rules) c.loop-q.invariant.0 c.loop-q.invariant.1
