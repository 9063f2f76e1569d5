use Rattle.std.proofs.Common.{◌≡◌, ◌++◌, drop}
use Rattle.object_file.specs.Objects.{segments_from}
use Rattle.object_file.proofs.segments.segments_from.Given as goal

abbrev pub invariant-loop-at : goal.invariant-loop-at
invariant-loop-at l = l.segments ++ segments_from l.start l.left (drop l.at l.infos) (drop l.at l.parts) ≡ segments_from l.start l.relocs l.infos l.parts
