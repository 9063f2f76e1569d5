use Rattle.link_marks.specs.Seen.{number_in, defined_chunk}
use Rattle.link_marks.proofs.Steps.{gained}
use Rattle.link_marks.proofs.roots.add_winners.Goals as goal

pub loop-winner-preserved : goal.loop-winner-preserved
loop-winner-preserved c =
    gained c.args.winners.now c.loop-winner.winner-index _ c.loop-winner-test.true (λ w. number_in c.args.chunks.now (defined_chunk w.definition)) c.args.roots.now c.loop-winner.roots c.push_some.new.numbers c.number_defined.result
    c.loop-winner.invariant c.number_defined.ensures c.in_ok-push_some.ensures
