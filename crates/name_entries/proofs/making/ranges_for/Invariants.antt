use Rattle.std.proofs.Common.{◌≡◌, ◌-◌}
use Rattle.wl_rows.specs.Ranges.{AreRanges}
use Rattle.name_entries.proofs.making.ranges_for.Given as goal

abbrev pub invariant-loop-from : goal.invariant-loop-from
invariant-loop-from l = record {
  are : AreRanges (l.workers - 1) l.ranges.cuts l.ranges.count;
  count : l.ranges.count ≡ l.from-index;
}
