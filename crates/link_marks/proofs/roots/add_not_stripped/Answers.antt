use Rattle.link_marks.specs.Seen.{number_not_stripped}
use Rattle.link_marks.proofs.Steps.{gained}
use Rattle.link_marks.proofs.roots.add_not_stripped.Goals as goal

pub loop-winner-preserved : goal.loop-winner-preserved
loop-winner-preserved c =
    gained c.args.winners.now c.loop-winner.winner-index _ c.loop-winner-test.true (number_not_stripped c.args.chunks.now) c.args.roots.now c.loop-winner.roots c.push_some.new.numbers c.number_not_stripped.result
    c.loop-winner.invariant c.number_not_stripped.ensures c.in_ok-push_some.ensures
