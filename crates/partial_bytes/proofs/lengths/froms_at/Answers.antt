use Rattle.std.proofs.Common.{◌+◌, ◌∙◌, ap}
use Rattle.partial_bytes.proofs.Lens.{froms_more}
use Rattle.partial_bytes.proofs.lengths.froms_at.Goals as goal

pub loop-part-preserved : goal.loop-part-preserved
loop-part-preserved c =
    let begins = c.in_ok-from.ensures ∙ ap (λ n. c.loop-part.at + n) c.head_size.ensures.size in
    froms_more c.args.kind c.args.parts.now c.loop-part.part-index _ c.loop-part-test.true c.loop-part.at c.in_ok-from.from c.in_ok-at.at begins c.in_ok-at.ensures
    c.loop-part.froms c.push.new.self _ c.in_ok-push.ensures.ok c.loop-part.invariant
