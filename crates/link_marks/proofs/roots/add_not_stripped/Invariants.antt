use Rattle.std.proofs.Common.{◌≡◌, ◌++◌, take, filter_map}
use Rattle.link_marks.specs.Seen.{number_not_stripped}
use Rattle.link_marks.proofs.roots.add_not_stripped.Given as goal

abbrev pub invariant-loop-winner : goal.invariant-loop-winner
invariant-loop-winner l = l.roots ≡ l.fn.roots ++ filter_map (number_not_stripped l.chunks) (take l.winner-index l.winners)
