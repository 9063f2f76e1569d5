use Rattle.std.proofs.Common.{◌≡◌, ◌++◌, ◌+◌, length, take, drop}
use Rattle.std.specs.List.{AllByRecursion}
use Rattle.debug_out.specs.Inputs.{places_of}
use Rattle.debug_out.specs.Pieces.{pieces_bytes, pieces_len, Fits}
use Rattle.debug_out.proofs.pieces.put_pieces.Given as goal

abbrev pub invariant-loop-q : goal.invariant-loop-q
invariant-loop-q l = (l.at + pieces_len (drop l.q-index l.pieces) ≡ length l.out)
    × (take l.at l.out ++ pieces_bytes l.rows (places_of l.places) (drop l.q-index l.pieces) ≡ pieces_bytes l.rows (places_of l.places) l.pieces)
    × AllByRecursion Fits (drop l.q-index l.pieces)
