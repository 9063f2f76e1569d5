use Rattle.std.proofs.Common.{◌≡◌, ◌<◌, None, map}
use Rattle.output_check.specs.Told.{AreRead}
use Rattle.output_check.proofs.bodies.first_untyped_in.Given as goal

abbrev pub invariant-loop-at : goal.invariant-loop-at
invariant-loop-at l = record {
  are : AreRead l.context l.functions (map (λ p. p.now) l.parts) l.from l.at l.first;
  short : l.to < l.from → l.first ≡ None;
}
