use Rattle.std.proofs.Common.{◌≡◌, length}
use Rattle.std.proofs.Math.ListN.{take}
use Rattle.wl_each.specs.Items.{items_from}
use Rattle.wl_each.proofs.dealing.DealingSlices.work.Given as goal

abbrev pub invariant-loop-at : goal.invariant-loop-at
invariant-loop-at g l = record {
  long : length l.items ≡ length l.initial.items;
  made : take l.at l.items ≡ items_from (g.E.Each.value l.self.each.now) l.from l.at;
}
