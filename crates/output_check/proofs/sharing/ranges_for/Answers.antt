use Rattle.std.proofs.Common.{◌-◌, arith}
use Rattle.wl_rows.proofs.Cuts.{few_more}
use Rattle.output_check.proofs.sharing.ranges_for.Goals as goal

pub loop-part-init : goal.loop-part-init
loop-part-init c = record {
  are = few_more 0 (c.count-workers.result - 1) c.new-ranges.result.cuts c.new-ranges.result.count (omega arith) c.new-ranges.ensures.ranges;
  count = c.new-ranges.ensures.none;
}

pub returns-clause-ranges : goal.returns-clause-ranges
returns-clause-ranges c =
    let range = c.count-workers.ensures.range in
    let r = c.loop-part.ranges in
    few_more (c.count-workers.result - 1) 63 r.cuts r.count (omega (arith, range)) c.loop-part.invariant.are
