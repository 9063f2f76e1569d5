use Rattle.std.proofs.Common.{◌<◌, ◌≤◌, ℕ}
use Rattle.valid_bodies.specs.First.{TypedAt}
use Rattle.valid_bodies.proofs.bodies.first_untyped_in.Given as goal

abbrev pub invariant-loop-at : goal.invariant-loop-at
invariant-loop-at l = (j : ℕ) → l.from ≤ j → j < l.at → TypedAt l.context l.functions l.bodies j
