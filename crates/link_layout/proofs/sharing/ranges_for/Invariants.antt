use Rattle.std.proofs.Common.{◌≡◌, ◌-◌}
use Rattle.wl_rows.specs.Ranges.{AreRanges}
use Rattle.link_layout.proofs.sharing.ranges_for.Given as goal

abbrev pub invariant-loop-source : goal.invariant-loop-source
invariant-loop-source l = record {
  are : AreRanges (l.workers - 1) l.ranges.cuts l.ranges.count;
  count : l.ranges.count ≡ l.source-index;
}
