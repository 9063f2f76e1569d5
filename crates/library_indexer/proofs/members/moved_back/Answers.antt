use Rattle.std.proofs.Common.{refl}
use Rattle.library_indexer.proofs.Gains.{moves_back}
use Rattle.library_indexer.proofs.members.moved_back.Goals as goal

pub loop-k-preserved : goal.loop-k-preserved
loop-k-preserved c =
    moves_back c.args.library.now.members c.loop-k.k c.member-member.result c.loop-k.members _ c.member-member.ensures c.loop-k.invariant
    (rw (c.in_ok-push.ensures.ok, c.saturating_sub.ensures) refl)
