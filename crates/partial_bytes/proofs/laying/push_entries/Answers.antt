use Rattle.std.proofs.Common.{◌<◌, ◌+◌, ◌^◌, ◌∙◌, ap, arith}
use Rattle.partial_bytes.proofs.Laid.{entries_more, entries_fit_more}
use Rattle.partial_bytes.proofs.Lens.{lens_more}
use Rattle.partial_bytes.proofs.laying.push_entries.Goals as goal

pub loop-number-preserved : goal.loop-number-preserved
loop-number-preserved c =
    let begins = c.in_ok-from.ensures ∙ ap (λ n. c.loop-number.at + n) c.head_size.ensures.size in
    let ends = c.from-at.ensures ∙ (c.in_ok-end.ensures ∙ c.in_ok-sum.ensures) in
    let low : c.from-at.result < 2 ^ 32 = omega (arith, c.from-at.ensures, c.in_ok-end.ensures) in
    let lens = lens_more c.args.kind c.args.parts.now c.loop-number.number _ c.loop-number-test.true c.loop-number.at c.in_ok-from.from c.from-at.result begins ends c.args.lens.now c.loop-number.invariant.1 in
    let long = c.in_ok-len.ensures _ (c.len_at.ensures ∙ lens.0) in (
      entries_more c.args.kind c.args.parts.now c.loop-number.number _ c.loop-number-test.true c.loop-number.out c.push.new.self _ c.loop-number.at c.in_ok-from.from c.from-at.result c.in_ok-len.len
          begins ends long c.in_ok-push.ensures.ok c.loop-number.invariant.0,
      lens.1,
      λ h k.
          let so_far = c.loop-number.invariant.2 h k in
          entries_fit_more c.args.parts.now c.loop-number.number _ c.loop-number-test.true c.loop-number.out c.push.new.self c.in_ok-from.from c.from-at.result c.in_ok-len.len ends low long
          c.in_ok-push.ensures.ok so_far.1 so_far.0,
    )
