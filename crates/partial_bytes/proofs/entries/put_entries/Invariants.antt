use Rattle.std.proofs.Common.{◌≡◌, take, drop, true}
use Rattle.std.specs.List.{list_all}
use Rattle.image_emit.specs.Put.{IsPut}
use Rattle.partial_bytes.specs.Relocs.{relocs_by}
use Rattle.partial_bytes.specs.Pieces.{entry_fits}
use Rattle.partial_bytes.specs.Written.{entries}
use Rattle.partial_bytes.proofs.entries.put_entries.Given as goal

abbrev pub invariant-loop-x : goal.invariant-loop-x
invariant-loop-x l = (list_all (entry_fits l.from) (relocs_by l.part.numbers.now (drop l.x-index l.part.named.now)) ≡ true)
    × IsPut l.fn.out l.fn.at (entries l.from l.part.numbers.now (take l.x-index l.part.named.now)) l.at l.out
