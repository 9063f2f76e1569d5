use Rattle.std.proofs.Common.{◌≡◌, ◌++◌, drop, true}
use Rattle.std.specs.List.{list_all}
use Rattle.partial_bytes.specs.Pieces.{reloc_pieces, Fit}
use Rattle.partial_bytes.specs.Measured.{entry_lens}
use Rattle.partial_bytes.specs.Written.{part_fits}
use Rattle.partial_bytes.proofs.laying.push_entries.Given as goal

abbrev pub invariant-loop-number : goal.invariant-loop-number
invariant-loop-number l = (l.out ++ reloc_pieces l.kind l.at (drop l.number l.parts) ≡ l.fn.out ++ reloc_pieces l.kind l.fn.at l.parts)
    × (drop l.number l.lens ≡ entry_lens l.kind l.at (drop l.number l.parts))
    × (list_all part_fits l.parts ≡ true → Fit l.fn.out → Fit l.out × (list_all part_fits (drop l.number l.parts) ≡ true))
