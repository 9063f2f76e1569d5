use Rattle.std.proofs.Common.{◌-◌, ap, get_or, arith, ◌∙◌}
use Rattle.wl_rows.proofs.Cuts.{first_none, first_behind}
use Rattle.wl_rows.proofs.ranges.Ranges.first.Goals as goal

pub returns-then-worker-eq0 : goal.returns-then-worker-eq0
returns-then-worker-eq0 c = first_none c.args.self.now.cuts c.args.self.now.count c.args.worker c.if-worker-eq0.true

pub returns-else-worker-eq0 : goal.returns-else-worker-eq0
returns-else-worker-eq0 c =
    let r = c.args.self.now in
    c.cut_or.ensures ∙ ap (λ cs. get_or cs (c.args.worker - 1) r.count) c.as_slice.ensures ∙ first_behind r.cuts r.count c.args.worker (omega arith)
