use Rattle.std.proofs.Common.{◌≡◌, take, filter}
use Rattle.link_marks.specs.Due.{is_due}
use Rattle.link_marks.proofs.due.due.Given as goal

abbrev pub invariant-loop-winner : goal.invariant-loop-winner
invariant-loop-winner l = l.exports ≡ filter (is_due l.asked l.dynamic l.calls l.work) (take l.winner-index l.winners)
