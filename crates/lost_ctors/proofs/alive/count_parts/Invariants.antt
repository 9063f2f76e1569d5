use Rattle.std.proofs.Common.{◌≡◌, drop}
use Rattle.lost_ctors.specs.Alive.{count_parts}
use Rattle.lost_ctors.proofs.alive.count_parts.Given as goal

abbrev pub invariant-loop-number : goal.invariant-loop-number
invariant-loop-number l = count_parts l.tables l.column (drop l.number-index l.live) ≡ count_parts l.tables l.fn.column l.live
