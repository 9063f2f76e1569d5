use Rattle.std.proofs.Common.{subst, arith, ◌++◌, take, take_all}
use Rattle.link_marks.specs.Asked.{IsAsked}
use Rattle.link_marks.proofs.Columns.{word_more}
use Rattle.link_marks.proofs.asked.ask_all.Goals as goal

pub loop-word-preserved : goal.loop-word-preserved
loop-word-preserved c = λ words h.
    subst (λ ws. IsAsked c.args.names.now.names ws c.ask.new.asked)
    (word_more words c.args.more.now c.loop-word.word-index c.as_slice.result.now c.word-item.result c.loop-word-test.true c.as_slice.ensures c.word-item.is)
    (c.ask.ensures (words ++ take c.loop-word.word-index c.args.more.now) (c.loop-word.invariant words h))

pub returns : goal.returns
returns c = λ words h.
    subst (λ ws. IsAsked c.args.names.now.names (words ++ ws) c.loop-word.asked) (take_all c.loop-word.word-index c.args.more.now (omega arith)) (c.loop-word.invariant words h)
