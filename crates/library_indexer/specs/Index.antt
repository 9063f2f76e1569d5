-- The index of a library, as the member that `ranlib` puts in front of the others (ar of System V and GNU): a big-endian count, as many
-- big-endian places of members' headers, and as many names, each ended by a byte 0. Behind them stands one more byte 0 where the data would
-- have odd size, so that the next member stands at an even place without padding.
--
-- The places are those of headers in the library without the index. With it they have moved by as much as the index takes. The names are
-- told as their text: one after another, each with its byte 0.
use Rattle.std.specs.Prelude.{ℕ, ◌+◌, ◌*◌, ◌%◌, ◌==◌, List, [], ◌∷◌, ◌++◌, length, take, drop, min, replicate, Bool, ◌&&◌, nat_le, if◌then◌else◌, codes, decimal}
use Rattle.std.specs.Str.{bytes_eq}
use Rattle.std.specs.List.{flat_map}
use Rattle.std.specs.Int.{to_be_bytes, w32}
use Rattle.lib_index.specs.Archive.{magic}

-- The bytes of a header.
abbrev pub header_length : ℕ
header_length = 60

-- The name in the header of an index.
abbrev pub index_name : List ℕ
index_name = 47 ∷ replicate 15 32

-- The first member's header has that name.
abbrev pub has_index : List ℕ → Bool
has_index bytes = nat_le 16 (length (drop 8 bytes)) && bytes_eq (take 16 (drop 8 bytes)) index_name

-- Four bytes, the highest first.
abbrev pub word : ℕ → List ℕ
word n = to_be_bytes w32 n

-- ---- the data

abbrev pub unfilled_size : List ℕ → List ℕ → ℕ
unfilled_size places text = 4 + 4 * length places + length text

abbrev pub data_size : List ℕ → List ℕ → ℕ
data_size places text = unfilled_size places text + unfilled_size places text % 2

abbrev pub filling : ℕ → List ℕ
filling size = if size % 2 == 1 then 0 ∷ [] else []

-- By how much an index of this size moves what stands behind it.
abbrev pub moved_by : ℕ → ℕ
moved_by size = header_length + size

-- The word of a place, once the headers have moved.
abbrev pub moved_word : ℕ → ℕ → List ℕ
moved_word size place = word (place + moved_by size)

unfoldable pub index_data : List ℕ → List ℕ → List ℕ
index_data places text =
    word (length places) ++ (flat_map (moved_word (data_size places text)) places ++ (text ++ filling (unfilled_size places text)))

-- ---- the header

-- Digits, and spaces up to ten bytes.
abbrev pub spaced : List ℕ → List ℕ
spaced digits = digits ++ drop (min (length digits) 10) (codes "          ")

-- The name is `/`. Date, owner, group and mode are 0.
unfoldable pub index_header : ℕ → List ℕ
index_header size = codes "/               0           0     0     0       " ++ (spaced (decimal size) ++ 0x60 ∷ 0x0a ∷ [])

-- ---- in front of the other members

unfoldable pub with_entries : List ℕ → List ℕ → List ℕ → List ℕ
with_entries places text bytes = magic ++ (index_header (data_size places text) ++ (index_data places text ++ drop 8 bytes))
