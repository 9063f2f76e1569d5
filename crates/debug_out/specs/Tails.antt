-- The joined sections before they are written.
use Rattle.std.specs.Prelude.{◌≡◌, ℕ, List, length, Result, Ok, Err}
use Rattle.std.specs.List.{AllByRecursion}
use Rattle.debug_rules.specs.Joined.{Places}
use Rattle.debug_out.specs.declared.error.DebugError.{DebugError}
use Rattle.debug_out.specs.declared.joining.DebugTail.{DebugTail}
use Rattle.debug_out.specs.Pieces.{pieces_bytes, pieces_len, starts_from, Fits}

-- the bytes that are written, by where things are
abbrev pub tail_bytes : Places → DebugTail → List ℕ
tail_bytes p t = pieces_bytes t.rows p t.pieces

-- what writing gives
abbrev pub bytes_told : Places → Result DebugTail DebugError → Result (List ℕ) DebugError
bytes_told p (Ok t) = Ok (tail_bytes p t)
bytes_told p (Err e) = Err e

-- starts and length are those of the pieces, and each window lies in its contribution
abbrev pub IsWhole : DebugTail → Type 0
IsWhole t = (t.starts ≡ starts_from 0 t.pieces) × (t.len ≡ pieces_len t.pieces) × AllByRecursion Fits t.pieces
