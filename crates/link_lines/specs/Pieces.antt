-- How the pieces of a line are spelled.
use Rattle.std.specs.Prelude.{ℕ, ◌+◌, ◌/◌, ◌%◌, ◌==◌, not, ◌&&◌, List, [], ◌∷◌, decimal, if◌then◌else◌, nat_le, nat_lt}
use Rattle.std.specs.List.{flat_map}
use Rattle.link_lines.specs.declared.piece.Piece.{Piece}
use Rattle.link_lines.specs.declared.piece.Piece.TheVariants.{Text, Name, Byte, Index, Number}

-- `0` to `9`, then `A` to `F`
abbrev pub hex_digit : ℕ → ℕ
hex_digit digit = if nat_lt digit 10 then 48 + digit else 55 + digit

-- a byte of a name: from `!` to `~` but the backslash itself, else `\x` and two hexadecimal digits
abbrev pub escaped : ℕ → List ℕ
escaped byte =
    if nat_le 33 byte && nat_le byte 126 && not (byte == 92) then byte ∷ []
    else 92 ∷ 120 ∷ hex_digit (byte / 16) ∷ hex_digit (byte % 16) ∷ []

abbrev pub printed : List ℕ → List ℕ
printed name = flat_map escaped name

abbrev pub piece_bytes : Piece → List ℕ
piece_bytes (Text text) = text.now
piece_bytes (Name name) = printed name.now
piece_bytes (Byte n) = decimal n
piece_bytes (Index n) = decimal n
piece_bytes (Number n) = decimal n

-- the pieces one after another
abbrev pub spelled : List Piece → List ℕ
spelled pieces = flat_map piece_bytes pieces

-- texts one after another
abbrev pub joined : List (List ℕ) → List ℕ
joined texts = flat_map (λ text. text) texts
