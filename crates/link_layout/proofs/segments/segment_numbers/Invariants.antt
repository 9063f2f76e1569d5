use Rattle.std.proofs.Common.{◌≡◌, take}
use Rattle.link_layout.specs.Segments.{segment_numbers}
use Rattle.link_layout.proofs.segments.segment_numbers.Given as goal

abbrev pub invariant-loop-number : goal.invariant-loop-number
invariant-loop-number l = l.numbers.items ≡ segment_numbers l.tables (take l.number-index l.live)
