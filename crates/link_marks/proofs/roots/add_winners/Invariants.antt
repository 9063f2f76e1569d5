use Rattle.std.proofs.Common.{◌≡◌, ◌++◌, take}
use Rattle.link_marks.specs.Seen.{winner_numbers}
use Rattle.link_marks.proofs.roots.add_winners.Given as goal

abbrev pub invariant-loop-winner : goal.invariant-loop-winner
invariant-loop-winner l = l.roots ≡ l.fn.roots ++ winner_numbers l.chunks (take l.winner-index l.winners)
