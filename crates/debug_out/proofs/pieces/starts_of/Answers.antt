use Rattle.std.proofs.Common.{◌≡◌, ◌+◌, ◌∙◌, ap, rules}
use Rattle.debug_out.specs.Pieces.{piece_len}
use Rattle.debug_out.proofs.Placed.{starts_more}
use Rattle.debug_out.proofs.pieces.starts_of.Goals as goal

pub loop-q-preserved : goal.loop-q-preserved
loop-q-preserved c =
    let sum : c.in-Some.end ≡ c.loop-q.at + c.piece_len.result = search rules in
    starts_more c.args.pieces.now c.loop-q.q-index c.q-item.result c.loop-q-test.true c.loop-q.starts _ _ c.loop-q.at c.in-Some.end _ c.in_ok-push.ensures.ok
    (sum ∙ ap (λ n. c.loop-q.at + n) (c.piece_len.ensures ∙ ap piece_len c.q-item.is)) c.loop-q.invariant
