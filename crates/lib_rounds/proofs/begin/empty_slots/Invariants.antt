use Rattle.std.proofs.Common.{◌≡◌}
use Rattle.std.specs.Prelude.{replicate}
use Rattle.lib_rounds.specs.Held.{absent}
use Rattle.lib_rounds.proofs.begin.empty_slots.Given as goal

abbrev pub invariant-loop-at : goal.invariant-loop-at
invariant-loop-at l = l.slots.items ≡ replicate l._at absent
