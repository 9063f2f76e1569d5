use Rattle.std.proofs.Common.{◌≡◌, take, filter}
use Rattle.link_marks.specs.Seen.{is_export}
use Rattle.link_marks.proofs.exported.chosen.Given as goal

abbrev pub invariant-loop-winner : goal.invariant-loop-winner
invariant-loop-winner l = l.exports ≡ filter (is_export l.asked l.dynamic) (take l.winner-index l.winners)
