use Rattle.std.proofs.Common.{◌≡◌, length, drop, true}
use Rattle.std.specs.List.{list_all}
use Rattle.partial_bytes.specs.Relocs.{relocs_by}
use Rattle.partial_bytes.specs.Told.{emptied}
use Rattle.partial_bytes.specs.Written.{window_fits}
use Rattle.partial_bytes.proofs.part.empty_windows.Given as goal

abbrev pub invariant-loop-x : goal.invariant-loop-x
invariant-loop-x l = (length l.out ≡ length l.fn.out) × (list_all (window_fits (length l.fn.out)) (relocs_by l.numbers (drop l.x-index l.named)) ≡ true)
    × (emptied (relocs_by l.numbers (drop l.x-index l.named)) l.out ≡ emptied (relocs_by l.numbers l.named) l.fn.out)
