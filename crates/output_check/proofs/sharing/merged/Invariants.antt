use Rattle.std.proofs.Common.{◌≡◌, None, drop}
use Rattle.output_check.specs.Told.{merged}
use Rattle.output_check.proofs.sharing.merged.Given as goal

abbrev pub invariant-loop-slot : goal.invariant-loop-slot
invariant-loop-slot l = merged l.first (drop l.slot-index l.slots) ≡ merged None l.slots
