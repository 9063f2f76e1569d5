use Rattle.std.proofs.Common.{◌+◌, ◌-◌, min, length}
use Rattle.live_mark.specs.Going.{Going}
use Rattle.live_mark.proofs.rounds.spread.Given as goal

abbrev pub invariant-loop-frontier : goal.invariant-loop-frontier
invariant-loop-frontier g l = Going l.opening.bits.now (g.E.Edges.targets l.edges) l.opening.places.now l.opening.workers l.seat l.frontier.items

abbrev pub decreases-loop-frontier : goal.decreases-loop-frontier
decreases-loop-frontier g l = (l.opening.bits.now.chunks - length l.seat.party.first) + min 1 (length l.frontier.items)
