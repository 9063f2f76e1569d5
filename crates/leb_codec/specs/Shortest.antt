-- The bytes that are written for a number: the shortest spelling, and the spelling of five bytes.
-- Core Specification 2.0, "Binary Format, Values, Integers" (LEB128): seven bits a byte, the lowest first, with 128 added
-- to each byte but the last. Linking.md, "Relocation Sections": a relocated number is padded to five bytes.
use Rattle.std.specs.Prelude.{ℕ, ◌+◌, ◌-◌, ◌/◌, ◌%◌, nat_lt, List, [], ◌∷◌, if◌then◌else◌, suc, zero, ℤ, pos, negsuc}

-- a number without a sign, as soon as nothing is left, in at most this many bytes and one more
abbrev pub shortest : ℕ → ℕ → List ℕ
shortest zero n = n ∷ []
shortest (suc more) n = if nat_lt n 128 then n ∷ [] else (128 + n % 128) ∷ shortest more (n / 128)

-- a number from 0 on, in exactly this many bytes and one more
abbrev pub padded : ℕ → ℕ → List ℕ
padded zero n = n ∷ []
padded (suc more) n = (128 + n % 128) ∷ padded more (n / 128)

-- a number from 0 on with a sign: bit 6 of the last byte is clear
abbrev pub shortest_above : ℕ → ℕ → List ℕ
shortest_above zero n = n ∷ []
shortest_above (suc more) n = if nat_lt n 64 then n ∷ [] else (128 + n % 128) ∷ shortest_above more (n / 128)

-- the number -1 - n: the bits of n turned over, so that bit 6 of the last byte is set
abbrev pub shortest_below : ℕ → ℕ → List ℕ
shortest_below zero n = (127 - n) ∷ []
shortest_below (suc more) n = if nat_lt n 64 then (127 - n) ∷ [] else (255 - n % 128) ∷ shortest_below more (n / 128)

-- the number -1 - n, in exactly this many bytes and one more
abbrev pub padded_below : ℕ → ℕ → List ℕ
padded_below zero n = (127 - n) ∷ []
padded_below (suc more) n = (255 - n % 128) ∷ padded_below more (n / 128)

-- negsuc n is -1 - n
abbrev pub shortest_signed : ℕ → ℤ → List ℕ
shortest_signed more (pos n) = shortest_above more n
shortest_signed more (negsuc n) = shortest_below more n

abbrev pub padded_signed : ℕ → ℤ → List ℕ
padded_signed more (pos n) = padded more n
padded_signed more (negsuc n) = padded_below more n

-- an unsigned number of 32 bits: the shortest, and in five bytes
unfoldable pub u32 : ℕ → List ℕ
u32 n = shortest 4 n

unfoldable pub u32_padded : ℕ → List ℕ
u32_padded n = padded 4 n

-- a signed number of 32 bits: the shortest, and in five bytes
unfoldable pub s32 : ℤ → List ℕ
s32 z = shortest_signed 4 z

unfoldable pub s32_padded : ℤ → List ℕ
s32_padded z = padded_signed 4 z

-- a signed number of 64 bits: the shortest
unfoldable pub s64 : ℤ → List ℕ
s64 z = shortest_signed 9 z
