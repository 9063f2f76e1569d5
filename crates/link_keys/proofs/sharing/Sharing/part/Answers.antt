use Rattle.std.proofs.Common.{◌+◌, ◌∙◌, arith}
use Rattle.std.specs.Prelude.{slice_range}
use Rattle.wl_rows.proofs.Cuts.{first_low}
use Rattle.link_keys.proofs.sharing.Sharing.part.Goals as goal

pub between-requires-clause-up : goal.between-requires-clause-up
between-requires-clause-up c =
    let rises = c.args.self.now.rising c.args.worker (c.args.worker + 1) (omega arith) in
    omega (arith, rises, c.first-from.ensures, c.first-to.ensures)

pub between-requires-clause-inside : goal.between-requires-clause-inside
between-requires-clause-inside c =
    let s = c.args.self.now in
    let low = first_low s.ranges.now.cuts s.ranges.now.count s.rising (c.args.worker + 1) in
    let all = s.whole in
    omega (arith, low, c.first-to.ensures, all)

pub returns : goal.returns
returns c = c.between.ensures ∙ (λ i. slice_range c.args.self.now.live.now (c.first-from.ensures i) (c.first-to.ensures i))
