use Rattle.std.proofs.Common.{◌≡◌, ◌-◌}
use Rattle.wl_rows.specs.Ranges.{AreRanges}
use Rattle.output_check.proofs.sharing.ranges_for.Given as goal

abbrev pub invariant-loop-part : goal.invariant-loop-part
invariant-loop-part l = record {
  are : AreRanges (l.workers - 1) l.ranges.cuts l.ranges.count;
  count : l.ranges.count ≡ l.part-index;
}
