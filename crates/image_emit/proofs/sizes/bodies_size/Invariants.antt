use Rattle.std.proofs.Common.{◌≡◌, ◌+◌, drop}
use Rattle.image_emit.specs.Put.{capped}
use Rattle.image_emit.specs.Sizes.{bodies_len}
use Rattle.image_emit.proofs.sizes.bodies_size.Given as goal

abbrev pub invariant-loop-body : goal.invariant-loop-body
invariant-loop-body l = (capped l.size ≡ l.size) × (capped (l.size + bodies_len (drop l.body-index l.bodies)) ≡ capped (bodies_len l.bodies))
