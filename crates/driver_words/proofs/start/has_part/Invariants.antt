use Rattle.std.proofs.Common.{◌≡◌, drop}
use Rattle.driver_words.specs.Start.{has_part}
use Rattle.driver_words.proofs.start.has_part.Given as goal

abbrev pub invariant-loop-at : goal.invariant-loop-at
invariant-loop-at l = has_part l.part (drop l.at l.bytes) ≡ has_part l.part l.bytes
