use Rattle.std.proofs.Common.{◌≡◌, ◌++◌, drop}
use Rattle.partial_bytes.specs.Pieces.{part_pieces}
use Rattle.partial_bytes.proofs.laying.push_parts.Given as goal

abbrev pub invariant-loop-part : goal.invariant-loop-part
invariant-loop-part l = l.out ++ part_pieces l.kind (drop l.part-index l.parts) ≡ l.fn.out ++ part_pieces l.kind l.parts
