use Rattle.std.proofs.Common.{◌≡◌, length}
use Rattle.name_entries.proofs.making.empty_slots.Given as goal

abbrev pub invariant-loop-worker : goal.invariant-loop-worker
invariant-loop-worker l = length l.slots.items ≡ l._worker
