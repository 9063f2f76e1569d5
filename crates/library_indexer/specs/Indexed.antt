-- A library without an index, as `ranlib` completes it.
--
-- GNU's ar makes such a one of objects whose symbols it can't read, as WebAssembly's, and LLVM's with the letter `S`. wasm-ld 14 refuses
-- it and asks for `ranlib`; wasm-ld 22 reads the members itself, and each offers what it defines. So does a library that LLVM's `ranlib`
-- has completed: for each symbol of a member that is neither undefined nor LOCAL, in the order of members and symbols.
--
-- A member that doesn't begin as an object, as a text, gives nothing, for both. One that begins as an object and can't be read is an error
-- for both: the library then stays as it is, without an index. So it does where a name has a byte 0, which would end it in an index, and
-- where a member's data begin with its name, since they are an object only behind that.
use Rattle.std.specs.Prelude.{ℕ, ◌+◌, ◌-◌, ◌^◌, ◌==◌, nat_lt, Bool, true, false, not, ◌&&◌, ◌||◌, is_some, List, [], ◌∷◌, ◌++◌, length, drop, map, if◌then◌else◌, Result, Ok, Err}
use Rattle.std.specs.List.{flat_map, list_all, list_any}
use Rattle.wl_base.specs.declared.fault.Fault.{Fault}
use Rattle.wl_base.specs.declared.fault.LibFault.{LibFault}
use Rattle.wl_base.specs.declared.fault.LibFault.TheVariants.{NotLibrary, Thin, BadHeader, NoIndex, BadIndex}
use Rattle.wl_base.specs.declared.span.Span.{Span}
use Rattle.object_file.specs.declared.object.Object.{Object}
use Rattle.object_file.specs.ObjectOf.{object_of}
use Rattle.lib_index.specs.declared.members.Member.{Member}
use Rattle.lib_index.specs.Library.{Contents, bytes_of, spans}
use Rattle.lib_index.specs.Reading.{◌>>=◌, behind, after_magic, members_at, library_of}
use Rattle.round_rules.specs.Rounds.{defined_names}
use Rattle.library_indexer.specs.declared.entries.Entries.{Entries}
use Rattle.library_indexer.specs.Index.{header_length, moved_by, data_size, with_entries}

-- ---- the members

-- The members of an archive, whether or not it has an index.
abbrev pub cut : List ℕ → Result (List Member) LibFault
cut bytes = after_magic bytes >>= λ rest. members_at (length rest) (length bytes) rest

abbrev pub spans_in : Result (List Member) LibFault → List Span
spans_in (Ok all) = spans all
spans_in (Err fault) = []

-- Where the data of those lie that are neither an index nor the long names.
abbrev pub members_of : List ℕ → List Span
members_of bytes = spans_in (cut bytes)

-- What reading a member gives. The number of the input has no part in its names.
abbrev pub read_in : List ℕ → Span → Result Object Fault
read_in bytes member = object_of 0 (bytes_of bytes member)

-- ---- what a member gives

-- The names that it defines for other objects.
abbrev pub names_given : Result Object Fault → List (List ℕ)
names_given (Ok object) = defined_names object
names_given (Err fault) = []

abbrev pub names_in : List ℕ → Span → List (List ℕ)
names_in bytes member = names_given (read_in bytes member)

-- Their text, each with a byte 0 behind it.
abbrev pub ended : List ℕ → List ℕ
ended name = name ++ 0 ∷ []

abbrev pub text_in : List ℕ → Span → List ℕ
text_in bytes member = flat_map ended (names_in bytes member)

-- For each name the place of the member's header.
abbrev pub header_of : Span → ℕ
header_of member = member.start - header_length

abbrev pub places_in : List ℕ → Span → List ℕ
places_in bytes member = map (λ name. header_of member) (names_in bytes member)

-- ---- whether that can be told

abbrev pub can_be_told : List ℕ → Bool
can_be_told name = not (list_any (λ b. b == 0) name)

-- `\0asm`, an object or module of WebAssembly (Core 5.5.16), and LLVM's bitcode, plain and wrapped (LLVM Bitcode File Format).
abbrev pub object_magic : List ℕ
object_magic = 0x00 ∷ 0x61 ∷ 0x73 ∷ 0x6d ∷ []

abbrev pub bitcode_magic : List ℕ
bitcode_magic = 0x42 ∷ 0x43 ∷ 0xc0 ∷ 0xde ∷ []

abbrev pub wrapper_magic : List ℕ
wrapper_magic = 0xde ∷ 0xc0 ∷ 0x17 ∷ 0x0b ∷ []

abbrev pub begins_as_object : List ℕ → Bool
begins_as_object bytes = is_some (behind object_magic bytes) || (is_some (behind bitcode_magic bytes) || is_some (behind wrapper_magic bytes))

-- BSD's ar puts a long name in front of the data, and `#1/` and its length in the header.
abbrev pub has_name_in_data : List ℕ → Bool
has_name_in_data header = is_some (behind (0x23 ∷ 0x31 ∷ 0x2f ∷ []) header)

abbrev pub is_told : List ℕ → List ℕ → Result Object Fault → Bool
is_told header content (Ok object) = list_all can_be_told (defined_names object)
is_told header content (Err fault) = not (begins_as_object content || has_name_in_data header)

abbrev pub tells : List ℕ → Span → Bool
tells bytes member = is_told (drop (header_of member) bytes) (bytes_of bytes member) (read_in bytes member)

-- ---- what the index gives

-- For some members, and whether each of them can be told.
abbrev pub entries_of : List ℕ → List Span → Entries
entries_of bytes members = record {
  text = flat_map (text_in bytes) members;
  places = flat_map (places_in bytes) members;
  told = list_all (tells bytes) members;
}

abbrev pub entries_in : List ℕ → Entries
entries_in bytes = entries_of bytes (members_of bytes)

-- ---- the whole

-- A library with an index of this size has fewer than 2^32 bytes, as any that is read.
abbrev pub fits : ℕ → List ℕ → Bool
fits size bytes = nat_lt (length bytes + moved_by size) (2 ^ 32)

abbrev pub can_be_completed : Entries → List ℕ → Bool
can_be_completed e bytes = e.told && fits (data_size e.places e.text) bytes

abbrev pub completed : Entries → List ℕ → List ℕ
completed e bytes = if can_be_completed e bytes then with_entries e.places e.text bytes else bytes

-- It is a library but for the index.
abbrev pub lacks_index : Result Contents LibFault → Bool
lacks_index (Ok library) = false
lacks_index (Err NotLibrary) = false
lacks_index (Err Thin) = false
lacks_index (Err (BadHeader place)) = false
lacks_index (Err NoIndex) = true
lacks_index (Err (BadIndex rule)) = false

-- Any other bytes stay as they are.
unfoldable pub with_index : List ℕ → List ℕ
with_index bytes = if lacks_index (library_of bytes) then completed (entries_in bytes) bytes else bytes
