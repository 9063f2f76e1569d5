use Rattle.std.proofs.Common.{◌≡◌, ◌+◌, ◌++◌, drop}
use Rattle.image_emit.specs.Sizes.{bodies_len, body_places}
use Rattle.image_emit.proofs.measuring.add_bodies.Given as goal

abbrev pub invariant-loop-body : goal.invariant-loop-body
invariant-loop-body l = (l.at + bodies_len (drop l.body-index l.bodies) ≡ l.initial.at + bodies_len l.bodies)
    × (l.places ++ body_places l.at (drop l.body-index l.bodies) ≡ l.initial.places ++ body_places l.initial.at l.bodies)
