use Rattle.std.proofs.Common.{◌≡◌, take}
use Rattle.case_objects.specs.Parts.{joined}
use Rattle.case_objects.proofs.parts.join.Given as goal

abbrev pub invariant-loop-part : goal.invariant-loop-part
invariant-loop-part l = l.bytes ≡ joined (take l.part-index l.parts)
