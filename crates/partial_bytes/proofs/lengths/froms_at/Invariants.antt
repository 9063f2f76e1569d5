use Rattle.std.proofs.Common.{◌≡◌, ◌++◌, drop}
use Rattle.partial_bytes.specs.Measured.{froms_at}
use Rattle.partial_bytes.proofs.lengths.froms_at.Given as goal

abbrev pub invariant-loop-part : goal.invariant-loop-part
invariant-loop-part l = l.froms ++ froms_at l.kind l.at (drop l.part-index l.parts) ≡ froms_at l.kind l.fn.at l.parts
