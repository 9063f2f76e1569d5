use Rattle.std.proofs.Common.{◌≡◌, ◌++◌, ◌+◌, ◌<◌, ◌^◌, length, take, drop}
use Rattle.partial_bytes.specs.Pieces.{pieces_bytes, pieces_len, Fit}
use Rattle.partial_bytes.proofs.pieces.put_pieces.Given as goal

abbrev pub invariant-loop-q : goal.invariant-loop-q
invariant-loop-q l = (l.at + pieces_len (drop l.q-index l.pieces) ≡ length l.out)
    × (take l.at l.out ++ pieces_bytes (drop l.q-index l.pieces) ≡ pieces_bytes l.pieces)
    × Fit (drop l.q-index l.pieces)
    × (length l.out < 2 ^ 31)
