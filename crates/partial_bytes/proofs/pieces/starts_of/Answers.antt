use Rattle.std.proofs.Common.{◌≡◌, ◌+◌, ◌∙◌, true, sym, ap, subst}
use Rattle.partial_bytes.specs.declared.pieces.Piece.{Piece}
use Rattle.partial_bytes.specs.Pieces.{piece_len, fits}
use Rattle.partial_bytes.proofs.Placed.{starts_more, piece_fits}
use Rattle.partial_bytes.proofs.pieces.starts_of.Goals as goal

pub loop-q-preserved : goal.loop-q-preserved
loop-q-preserved c =
    let so_far = c.loop-q.invariant in
    let starts =
    starts_more c.args.pieces.now c.loop-q.q-index c.q-item.result c.loop-q-test.true c.loop-q.starts _ _ c.loop-q.at _ _ c.in_ok-push.ensures.ok
    (c.in_ok-at.ensures ∙ ap (λ n. c.loop-q.at + n) (c.in_ok-len.ensures ∙ ap piece_len c.q-item.is)) (so_far.0, so_far.1) in
    (starts.0, starts.1, (piece_fits c.args.pieces.now c.loop-q.q-index c.q-item.result c.loop-q-test.true so_far.2).1)

pub piece_len-requires : goal.piece_len-requires
piece_len-requires c =
    subst (λ (q : Piece). fits q ≡ true) (sym c.q-item.is) (piece_fits c.args.pieces.now c.loop-q.q-index c.q-item.result c.loop-q-test.true c.loop-q.invariant.2).0
