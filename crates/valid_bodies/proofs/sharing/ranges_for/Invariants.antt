use Rattle.std.proofs.Common.{◌≡◌, ◌-◌}
use Rattle.wl_rows.specs.Ranges.{AreRanges}
use Rattle.valid_bodies.proofs.sharing.ranges_for.Given as goal

abbrev pub invariant-loop-body : goal.invariant-loop-body
invariant-loop-body l = record {
  are : AreRanges (l.workers - 1) l.ranges.cuts l.ranges.count;
  count : l.ranges.count ≡ l.body-index;
}
