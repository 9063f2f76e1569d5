use Rattle.std.proofs.Common.{◌≡◌, take}
use Rattle.sym_parts.specs.Data.{segment_numbers}
use Rattle.sym_parts.proofs.segments.live_segments.Given as goal

abbrev pub invariant-loop-number : goal.invariant-loop-number
invariant-loop-number l = l.numbers.items ≡ segment_numbers l.tables (take l.number-index l.live)
