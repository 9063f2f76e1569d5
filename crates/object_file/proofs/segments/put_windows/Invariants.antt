use Rattle.std.proofs.Common.{◌≡◌, map, take}
use Rattle.object_file.specs.Objects.{window_from}
use Rattle.object_file.proofs.segments.put_windows.Given as goal

abbrev pub invariant-loop-reloc : goal.invariant-loop-reloc
invariant-loop-reloc l = l.windows ≡ map (window_from l.base) (take l.reloc-index l.relocs)
