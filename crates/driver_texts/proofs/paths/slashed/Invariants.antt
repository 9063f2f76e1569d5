use Rattle.std.proofs.Common.{◌≡◌, drop}
use Rattle.driver_texts.specs.Paths.{slashed}
use Rattle.driver_texts.proofs.paths.slashed.Given as goal

abbrev pub invariant-loop-at : goal.invariant-loop-at
invariant-loop-at l = slashed l.at l.end (drop l.at l.path) ≡ slashed 0 0 l.path
