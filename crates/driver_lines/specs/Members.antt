-- The names of inputs: that of a file, and for a library those of its members, as `libx.a(m.o)`.
--
-- GNU's and LLVM's `ar` put a member's name into the first 16 bytes of its header, with a slash behind it. A longer one stands among the long
-- names, each with a slash and the end of a line behind it, and the header has a slash and the name's place. The long names are the data of the
-- member `//`, which comes behind the index. BSD's `ar` fills a short name up with spaces.
use Rattle.std.specs.Prelude.{ℕ, ◌+◌, ◌-◌, ◌%◌, ◌^◌, List, [], ◌∷◌, ◌++◌, length, take, drop, map, Bool, eqb, ◌==◌, nat_lt, if◌then◌else◌, Result, Ok, Err, bytes_eq, codes}
use Rattle.std.specs.List.{list_any, starts_with, ends_with}
use Rattle.std.specs.Str.Lossy.{utf8_lossy}
use Rattle.wl_base.specs.declared.span.Span.{Span}
use Rattle.wl_base.specs.declared.fault.LibFault.{LibFault}
use Rattle.driver_table.specs.Numbers.{amount}
use Rattle.lib_index.specs.Library.{Contents}
use Rattle.lib_index.specs.Reading.{has_magic, library_of}

abbrev pub header_length : ℕ
header_length = 60

-- the bytes in front of the first of this value; all of them where there is none
abbrev pub until : ℕ → List ℕ → List ℕ
until stop [] = []
until stop (b ∷ bs) = if b == stop then [] else b ∷ until stop bs

-- how many bytes follow the header that bytes begin with
abbrev pub size_in : List ℕ → ℕ
size_in left = amount (until 0x20 (take 10 (drop 48 left)))

-- ---- the long names

-- what stands behind the first member, which is the index, at an even place
abbrev pub behind_index : List ℕ → List ℕ
behind_index bytes = drop (header_length + size_in (drop 8 bytes) + size_in (drop 8 bytes) % 2) (drop 8 bytes)

abbrev pub has_long_names : List ℕ → Bool
has_long_names left = bytes_eq (take 16 left) (codes "//              ")

abbrev pub longs_at : List ℕ → List ℕ
longs_at left = if has_long_names left then take (size_in left) (drop header_length left) else []

abbrev pub long_names : List ℕ → List ℕ
long_names bytes = longs_at (behind_index bytes)

-- ---- a member's name

-- the name in the header in front of a member's data
abbrev pub name_field : List ℕ → Span → List ℕ
name_field bytes span = take 16 (drop (span.start - header_length) bytes)

abbrev pub short_name : List ℕ → List ℕ
short_name field = if list_any (λ b. b == 0x2f) field then until 0x2f field else until 0x20 field

abbrev pub unslashed : List ℕ → List ℕ
unslashed name = if ends_with eqb name (codes "/") then take (length name - 1) name else name

abbrev pub long_name : List ℕ → ℕ → List ℕ
long_name longs at = unslashed (until 0x0a (drop at longs))

abbrev pub member_name : List ℕ → List ℕ → List ℕ
member_name longs field = if starts_with eqb field (codes "/") then long_name longs (amount (until 0x20 (drop 1 field))) else short_name field

-- ---- the names of inputs

-- A member as an input, by the library's name and its own. What of it isn't UTF-8 is told as U+FFFD.
abbrev pub member_text : List ℕ → List ℕ → List ℕ
member_text library name = ((library ++ codes "(") ++ utf8_lossy name) ++ codes ")"

abbrev pub name_in : List ℕ → List ℕ → List ℕ → Span → List ℕ
name_in library bytes longs span = member_text library (member_name longs (name_field bytes span))

abbrev pub names_in : List ℕ → List ℕ → Result Contents LibFault → List (List ℕ)
names_in library bytes (Ok contents) = map (name_in library bytes (long_names bytes)) contents.members
names_in library bytes (Err fault) = []

-- A library of 2^32 bytes or more is none that can be read.
abbrev pub names_of_library : List ℕ → List ℕ → List (List ℕ)
names_of_library library bytes = if nat_lt (length bytes) (2 ^ 32) then names_in library bytes (library_of bytes) else []

-- The names of the inputs that a file is.
abbrev pub names_of_file : List ℕ → List ℕ → List (List ℕ)
names_of_file name bytes = if has_magic bytes then names_of_library name bytes else name ∷ []

-- The names of all inputs, from input 1 on.
abbrev pub input_names : List (List ℕ) → List (List ℕ) → List (List ℕ)
input_names (name ∷ names) (bytes ∷ files) = names_of_file name bytes ++ input_names names files
input_names names files = []
