use Rattle.std.proofs.Common.{◌+◌, ◌≤◌, arith}
use Rattle.wl_rows.proofs.Cuts.{ends_later}
use Rattle.wl_rows.proofs.ranges.Ranges.add.Goals as goal

pub returns-clause-ranges : goal.returns-clause-ranges
returns-clause-ranges c = ends_later c.args.most c.cut.new.self.cuts c.cut.new.self.count c.in-Some.count (omega (arith, c.in_ok-cut.ensures.count, c.in-Some.ensures)) c.in_ok-cut.ensures.ranges
