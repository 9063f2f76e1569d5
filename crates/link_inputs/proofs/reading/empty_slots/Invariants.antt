use Rattle.std.proofs.Common.{◌≡◌, length}
use Rattle.link_inputs.proofs.reading.empty_slots.Given as goal

abbrev pub invariant-loop-at : goal.invariant-loop-at
invariant-loop-at l = length l.slots.items ≡ l._at
