use Rattle.std.proofs.Common.{◌≡◌, ◌++◌, take, drop}
use Rattle.driver_texts.specs.Thin.{until}
use Rattle.driver_texts.proofs.thin.until.Given as goal

abbrev pub invariant-loop-at : goal.invariant-loop-at
invariant-loop-at l = take l.at l.bytes ++ until l.stop (drop l.at l.bytes) ≡ until l.stop l.bytes
