use Rattle.std.proofs.Common.{◌≡◌, ◌++◌, take, drop}
use Rattle.driver_lines.specs.Members.{until}
use Rattle.driver_lines.proofs.archive.until.Given as goal

abbrev pub invariant-loop-at : goal.invariant-loop-at
invariant-loop-at l = take l.at l.bytes ++ until l.stop (drop l.at l.bytes) ≡ until l.stop l.bytes
