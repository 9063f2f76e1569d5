-- Sets of chunks as bits, 64 to a word.
use Rattle.std.specs.Prelude.{ℕ, ◌+◌, ◌/◌, ◌%◌, ◌^◌, ◌<◌, ◌==◌, max, cond, List, [], ◌∷◌, slice_index, slice_set}
use Rattle.std.specs.Int.{bit_at}
use Rattle.std.specs.Int.Bits.{bit_or}

-- how often x stands in the list
abbrev pub times : ℕ → List ℕ → ℕ
times x [] = 0
times x (y ∷ ys) = cond (y == x) 1 0 + times x ys

-- x stands in the list
abbrev pub Among : ℕ → List ℕ → Type 0
Among x xs = 0 < times x xs

-- how many words hold the bits: at least one, and one for each 64 chunks begun
abbrev pub word_count : ℕ → ℕ
word_count chunks = max 1 ((chunks + 63) / 64)

-- the bit of a chunk
abbrev pub bit_of : List ℕ → ℕ → ℕ
bit_of words c = bit_at (slice_index words (c / 64)) (c % 64)

-- the words with the bit of c set
abbrev pub set_bit : List ℕ → ℕ → List ℕ
set_bit words c = slice_set words (c / 64) (bit_or (slice_index words (c / 64)) (2 ^ (c % 64)))
