-- Reading a library: its contents, or the first cause for which it is none.
--
-- The end is the place of the end of the bytes, so they stand at end less their length.
use Rattle.std.specs.Prelude.{◌++◌, ◌≡◌, ℕ, zero, suc, ◌+◌, ◌-◌, ◌*◌, ◌%◌, List, [], ◌∷◌, length, take, drop, Option, Some, None, Result, Ok, Err, Bool, nat_lt, ◌==◌, ◌&&◌, ◌||◌, is_some, if◌then◌else◌, min, position, option_map}
use Rattle.std.specs.List.{list_all, prefix_len}
use Rattle.std.specs.Str.{bytes_eq}
use Rattle.std.specs.Char.{is_ascii_digit}
use Rattle.wl_base.specs.declared.fault.LibFault.{LibFault}
use Rattle.wl_base.specs.declared.fault.LibFault.TheVariants.{NotLibrary, Thin, BadHeader, NoIndex, BadIndex}
use Rattle.lib_index.specs.declared.fault.LibError.{LibError}
use Rattle.lib_index.specs.declared.fault.LibError.TheVariants.{Refused, OutOfMemory}
use Rattle.lib_index.specs.declared.members.Role.{Role}
use Rattle.lib_index.specs.declared.members.Role.TheVariants.{Index, LongNames, Object}
use Rattle.lib_index.specs.declared.members.Member.{Member}
use Rattle.lib_index.specs.Archive.{magic, thin_magic, decimal, member_of}
use Rattle.lib_index.specs.Library.{Contents, headers, spans, bytes_of, big_endian, leasts}

-- One step, and then what depends on its answer: the first cause is the answer.
infixl 10 ◌>>=◌
abbrev pub ◌>>=◌ : {A B : Type 0} → Result A LibFault → (A → Result B LibFault) → Result B LibFault
(Ok x) >>= f = f x
(Err e) >>= f = Err e

-- What is there, or else this cause.
abbrev pub or_fault : {A : Type 0} → LibFault → Option A → Result A LibFault
or_fault fault (Some x) = Ok x
or_fault fault None = Err fault

-- What a call that takes no memory answered, seen by view, is what reading gives.
abbrev pub Reads : {X Y : Type 0} → (X → Y) → Result X LibFault → Result Y LibFault → Type 0
Reads view (Ok x) read = read ≡ Ok (view x)
Reads view (Err e) read = read ≡ Err e

-- Reading gives this cause. Want of memory says nothing of the bytes.
abbrev pub Fails : {Y : Type 0} → LibError → Result Y LibFault → Type 0
Fails (Refused e) read = read ≡ Err e
Fails OutOfMemory read = Unit {0}

-- What a call answered, seen by view, is what reading gives, unless memory ran out.
abbrev pub Answers : {X Y : Type 0} → (X → Y) → Result X LibError → Result Y LibFault → Type 0
Answers view (Ok x) read = read ≡ Ok (view x)
Answers view (Err e) read = Fails e read

-- ---- the magic

-- The bytes behind these, which have to stand there.
abbrev pub behind : List ℕ → List ℕ → Option (List ℕ)
behind [] bytes = Some bytes
behind (t ∷ text) [] = None
behind (t ∷ text) (b ∷ bytes) = if b == t then behind text bytes else None

-- The bytes behind the magic, or why there are none.
abbrev pub after_magic : List ℕ → Result (List ℕ) LibFault
after_magic bytes = or_fault (if is_some (behind thin_magic bytes) then Thin else NotLibrary) (behind magic bytes)

-- Whether a file begins with either magic and a newline.
abbrev pub has_magic : List ℕ → Bool
has_magic bytes = is_some (behind magic bytes) || is_some (behind (thin_magic ++ 0x0a ∷ []) bytes)

-- ---- the members

-- The number in a field: decimal digits, one at least, and then spaces alone.
unfoldable pub number_in : List ℕ → Option ℕ
number_in field =
    if nat_lt 0 (prefix_len is_ascii_digit field) && list_all (λ b. b == 32) (drop (prefix_len is_ascii_digit field) field)
    then Some (decimal (take (prefix_len is_ascii_digit field) field))
    else None

-- Whether 60 bytes are there, of which the last are 60 0A.
abbrev pub has_header : List ℕ → Bool
has_header bytes = nat_lt 59 (length bytes) && bytes_eq (take 2 (drop 58 bytes)) (0x60 ∷ 0x0a ∷ [])

-- The bytes behind data, without the byte of padding, if there is one.
abbrev pub unpadded : ℕ → List ℕ → List ℕ
unpadded size after = drop (min (size % 2) (length after)) after

-- The member at the front whose data have this size, and the bytes after it; none where it runs past
-- the end.
abbrev pub cut_member : ℕ → List ℕ → ℕ → Option (Member × List ℕ)
cut_member end bytes size =
    if nat_lt (length (drop 60 bytes)) size then None
    else Some (member_of (take 16 bytes) (end - length bytes) (end - length (drop 60 bytes)) size, unpadded size (drop size (drop 60 bytes)))

-- The same, where there is a size.
abbrev pub sized_member : ℕ → List ℕ → Option ℕ → Option (Member × List ℕ)
sized_member end bytes None = None
sized_member end bytes (Some size) = cut_member end bytes size

-- The member at the front, and the bytes after it; none where its header is short, lacks 60 0A or
-- has no number as size, or where the member runs past the end.
unfoldable pub member_at : ℕ → List ℕ → Option (Member × List ℕ)
member_at end bytes = if has_header bytes then sized_member end bytes (number_in (take 10 (drop 48 bytes))) else None

-- The members that the bytes are, at most so many, of which each takes a byte at least.
unfoldable pub members_at : ℕ → ℕ → List ℕ → Result (List Member) LibFault
members_at n end [] = Ok []
members_at zero end (b ∷ bytes) = Ok []
members_at (suc n) end (b ∷ bytes) = do
  m ← or_fault (BadHeader (end - length (b ∷ bytes))) (member_at end (b ∷ bytes))
  others ← members_at n end m.1
  Ok (m.0 ∷ others)

-- ---- the index

-- The number of four bytes at the front, and the bytes after it.
abbrev pub word_at : List ℕ → Option (ℕ × List ℕ)
word_at (a ∷ b ∷ c ∷ d ∷ rest) = Some (big_endian (a ∷ b ∷ c ∷ d ∷ []), rest)
word_at _ = None

-- The number of the member whose header stands at the place that is at the front, and the bytes after
-- it.
unfoldable pub number_at : List ℕ → List ℕ → Result (ℕ × List ℕ) LibFault
number_at places bytes = do
  word ← or_fault (BadIndex 1) (word_at bytes)
  number ← or_fault (BadIndex 2) (position (λ place. place == word.0) places)
  Ok (number, word.1)

-- The numbers of so many members.
unfoldable pub numbers_at : List ℕ → ℕ → List ℕ → Result (List ℕ) LibFault
numbers_at places zero bytes = Ok []
numbers_at places (suc n) bytes = do
  first ← number_at places bytes
  others ← numbers_at places n first.1
  Ok (first.0 ∷ others)

-- The bytes before the first 0, and those after it.
abbrev pub name_at : List ℕ → Option (List ℕ × List ℕ)
name_at bytes = option_map (λ k. (take k bytes, drop (k + 1) bytes)) (position (λ b. b == 0) bytes)

-- A name for each of these members.
unfoldable pub entries_at : List ℕ → List ℕ → Result (List (List ℕ × ℕ)) LibFault
entries_at [] bytes = Ok []
entries_at (number ∷ numbers) bytes = do
  name ← or_fault (BadIndex 3) (name_at bytes)
  others ← entries_at numbers name.1
  Ok ((name.0, number) ∷ others)

-- The places and the names, once the count is known: the index is shorter than that asks, or they are
-- there.
unfoldable pub counted_index : List ℕ → ℕ → List ℕ → Result (List (List ℕ × ℕ)) LibFault
counted_index places count rest =
    if nat_lt (length rest) (4 * count) then Err (BadIndex 1)
    else (numbers_at places count rest >>= λ numbers. entries_at numbers (drop (4 * count) rest))

-- The index's entries, each a name and the number of a member.
unfoldable pub index_at : List ℕ → List ℕ → Result (List (List ℕ × ℕ)) LibFault
index_at places content = do
  count ← or_fault (BadIndex 1) (word_at content)
  counted_index places count.0 count.1

-- The first member has to be the index.
abbrev pub at_index : {A : Type 0} → Role → Result A LibFault → Result A LibFault
at_index Index read = read
at_index LongNames read = Err NoIndex
at_index Object read = Err NoIndex

abbrev pub first_index : List ℕ → List ℕ → Member → Result (List (List ℕ × ℕ)) LibFault
first_index bytes places first = at_index first.role (index_at places (bytes_of bytes first.span))

-- Where there is no member, nothing is given.
abbrev pub entries_of : List ℕ → List Member → Result (List (List ℕ × ℕ)) LibFault
entries_of bytes [] = Ok []
entries_of bytes (m ∷ ms) = first_index bytes (headers (m ∷ ms)) m

-- What is offered by these entries, where they can be read.
abbrev pub offers : Result (List (List ℕ × ℕ)) LibFault → Result (List (List ℕ × ℕ)) LibFault
offers read = read >>= λ entries. Ok (leasts entries)

-- ---- the whole

unfoldable pub library_of : List ℕ → Result Contents LibFault
library_of bytes = do
  rest ← after_magic bytes
  all ← members_at (length rest) (length bytes) rest
  entries ← entries_of bytes all
  Ok (record { members = spans all; offered = leasts entries })
