use Rattle.std.proofs.Common.{◌≡◌, map, take, Some}
use Rattle.sym_parts.specs.Sought.{known}
use Rattle.sym_parts.specs.Data.{segment_seen}
use Rattle.sym_parts.proofs.segments.segments_of.Given as goal

abbrev pub invariant-loop-number : goal.invariant-loop-number
invariant-loop-number l = map (segment_seen (known l.k) l.files l.addresses) (take l.number-index l.numbers) ≡ map Some l.segments
