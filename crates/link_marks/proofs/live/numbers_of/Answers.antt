use Rattle.link_marks.proofs.Steps.{bit_more}
use Rattle.link_marks.proofs.live.numbers_of.Goals as goal

pub loop-number-preserved : goal.loop-number-preserved
loop-number-preserved c =
    bit_more c.args.set.now.words c.loop-number.number c.loop-number.numbers c.push_if.new.numbers c.has.result c.loop-number.invariant c.has.ensures c.in_ok-push_if.ensures
