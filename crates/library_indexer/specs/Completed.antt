-- What a library is read as, once it is completed.
use Rattle.std.specs.Prelude.{◌≡◌, ℕ, ◌+◌, true, List, [], ◌∷◌, ◌++◌, map, Err}
use Rattle.wl_base.specs.declared.fault.LibFault.TheVariants.{NoIndex}
use Rattle.wl_base.specs.declared.span.Span.{Span}
use Rattle.lib_index.specs.Library.{Contents, IsLibrary, bytes_of, leasts}
use Rattle.lib_index.specs.Reading.{library_of}
use Rattle.library_indexer.specs.Index.{moved_by, data_size}
use Rattle.library_indexer.specs.Indexed.{members_of, names_in, entries_in, can_be_completed, with_index}

-- A place that is so many bytes further on.
abbrev pub moved : ℕ → Span → Span
moved by m = record { start = m.start + by; len = m.len }

-- The names of some members, each with the number of its member; the first has this number.
abbrev pub numbered : List ℕ → ℕ → List Span → List (List ℕ × ℕ)
numbered bytes number [] = []
numbered bytes number (m ∷ ms) = map (λ name. (name, number)) (names_in bytes m) ++ numbered bytes (number + 1) ms

-- How long the index is, with its header.
abbrev pub index_length : List ℕ → ℕ
index_length bytes = moved_by (data_size (entries_in bytes).places (entries_in bytes).text)

-- The same members, further on by the index, each of which offers the names that it defines.
abbrev pub contents_of : List ℕ → Contents
contents_of bytes = record {
  members = map (moved (index_length bytes)) (members_of bytes);
  offered = leasts (numbered bytes 0 (members_of bytes));
}

-- It lacks an index, which it can be given.
abbrev pub IsCompleted : List ℕ → Type 0
IsCompleted bytes = (library_of bytes ≡ Err NoIndex) × (can_be_completed (entries_in bytes) bytes ≡ true)

-- A library that is completed is one.
abbrev pub AreRead : Type 0
AreRead = (bytes : List ℕ) → IsCompleted bytes → IsLibrary (contents_of bytes) (with_index bytes)

-- Its members hold what they held.
abbrev pub AreKept : Type 0
AreKept = (bytes : List ℕ) → IsCompleted bytes
    → map (bytes_of (with_index bytes)) (contents_of bytes).members ≡ map (bytes_of bytes) (members_of bytes)
