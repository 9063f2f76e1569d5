use Rattle.std.proofs.Common.{◌≡◌, ◌-◌}
use Rattle.wl_rows.specs.Ranges.{AreRanges}
use Rattle.link_keys.proofs.sharing.ranges_for.Given as goal

abbrev pub invariant-loop-number : goal.invariant-loop-number
invariant-loop-number l = record {
  are : AreRanges (l.workers - 1) l.ranges.cuts l.ranges.count;
  count : l.ranges.count ≡ l.number-index;
}
