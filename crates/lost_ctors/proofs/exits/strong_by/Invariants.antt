use Rattle.std.proofs.Common.{◌≡◌, drop}
use Rattle.lost_ctors.specs.Exits.{strong_by}
use Rattle.lost_ctors.proofs.exits.strong_by.Given as goal

abbrev pub invariant-loop-winner : goal.invariant-loop-winner
invariant-loop-winner l = strong_by (drop l.winner-index l.winners) l.number ≡ strong_by l.winners l.number
