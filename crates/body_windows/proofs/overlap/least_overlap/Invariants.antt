use Rattle.std.proofs.Common.{◌≡◌, drop}
use Rattle.body_windows.specs.Windows.{least_from, overlaps_behind, least_overlap}
use Rattle.body_windows.proofs.overlap.least_overlap.Given as goal

abbrev pub invariant-loop-reloc : goal.invariant-loop-reloc
invariant-loop-reloc l = least_from l.least (overlaps_behind l.end (drop l.reloc-index l.relocs)) ≡ least_overlap l.relocs
