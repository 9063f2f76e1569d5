use Rattle.std.proofs.Common.{◌+◌, ◌∙◌, ap}
use Rattle.partial_bytes.proofs.Adding.{adds_more}
use Rattle.partial_bytes.proofs.Lens.{lens_more}
use Rattle.partial_bytes.proofs.measuring.section_size.Goals as goal

pub loop-number-preserved : goal.loop-number-preserved
loop-number-preserved c =
    let begins = c.in_ok-from.ensures ∙ ap (λ n. c.loop-number.at + n) c.head_size.ensures.size in
    let lens = lens_more c.args.kind c.args.parts.now c.loop-number.number _ c.loop-number-test.true c.loop-number.at c.in_ok-from.from c.in_ok-at.at begins c.in_ok-at.ensures c.args.lens.now
    c.loop-number.invariant.1 in (
      adds_more c.args.kind c.args.parts.now c.loop-number.number _ c.loop-number-test.true
          c.loop-number.at c.in_ok-from.from c.in_ok-at.at c.loop-number.count c.in_ok-count.count c.loop-number.entries c.in_ok-entries.entries c.in_ok-size.size
          begins c.in_ok-at.ensures c.in_ok-count.ensures (c.in_ok-size.ensures _ (c.len_at.ensures ∙ lens.0)) c.in_ok-entries.ensures
          c.loop-number.invariant.0,
      lens.1,
    )
