use Rattle.std.proofs.Common.{◌≡◌, drop}
use Rattle.valid_bodies.specs.Shares.{first_told}
use Rattle.valid_bodies.proofs.sharing.first_told.Given as goal

abbrev pub invariant-loop-slot : goal.invariant-loop-slot
invariant-loop-slot l = first_told (drop l.slot-index l.slots) ≡ first_told l.slots
