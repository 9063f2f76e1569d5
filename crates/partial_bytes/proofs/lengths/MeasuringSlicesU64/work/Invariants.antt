use Rattle.std.proofs.Common.{◌≡◌, length}
use Rattle.std.proofs.Math.ListN.{take}
use Rattle.wl_each.specs.Items.{items_from}
use Rattle.partial_bytes.specs.Measured.{len_there}
use Rattle.partial_bytes.proofs.lengths.MeasuringSlicesU64.work.Given as goal

abbrev pub invariant-loop-at : goal.invariant-loop-at
invariant-loop-at l = record {
  long : length l.items ≡ length l.initial.items;
  made : take l.at l.items ≡ items_from (len_there l.self.parts.now l.self.froms.now) l.from l.at;
}
