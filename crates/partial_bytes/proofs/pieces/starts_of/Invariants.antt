use Rattle.std.proofs.Common.{◌≡◌, ◌++◌, ◌+◌, drop}
use Rattle.partial_bytes.specs.Pieces.{starts_from, pieces_len, Fit}
use Rattle.partial_bytes.proofs.pieces.starts_of.Given as goal

abbrev pub invariant-loop-q : goal.invariant-loop-q
invariant-loop-q l = (l.starts ++ starts_from l.at (drop l.q-index l.pieces) ≡ starts_from 0 l.pieces) × (l.at + pieces_len (drop l.q-index l.pieces) ≡ pieces_len l.pieces)
    × Fit (drop l.q-index l.pieces)
