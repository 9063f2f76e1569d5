use Rattle.std.proofs.Common.{◌≡◌, length}
use Rattle.link_layout.proofs.sharing.empty_slots.Given as goal

abbrev pub invariant-loop-worker : goal.invariant-loop-worker
invariant-loop-worker l = length l.slots.items ≡ l._worker
