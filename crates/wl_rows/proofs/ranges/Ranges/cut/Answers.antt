use Rattle.std.proofs.Common.{◌<◌, length, arith}
use Rattle.wl_rows.proofs.Cuts.{cut_more}
use Rattle.wl_rows.proofs.ranges.Ranges.cut.Goals as goal

pub returns-clause-ranges : goal.returns-clause-ranges
returns-clause-ranges c =
    let old = c.args.self.now in
    let low : length old.cuts < c.args.most = omega (arith, c.len.ensures) in
    cut_more c.args.most old.cuts c.push.new.self old.count c.in_ok-push.ensures.ok low c.requires
