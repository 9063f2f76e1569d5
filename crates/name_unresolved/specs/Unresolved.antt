-- The first symbol that is unresolved where it is used.
use Rattle.std.specs.Prelude.{◌≡◌, ℕ, ◌+◌, ◌==◌, Bool, true, false, List, [], ◌∷◌, filter, flat_map, length, slice_get, if◌then◌else◌, Option, Some, None}
use Rattle.std.specs.List.{All}
use Rattle.name_meanings.specs.name_entries.object_file.declared.object.Object.{Object}
use Rattle.name_meanings.specs.name_entries.name_rules.declared.meaning.Meaning.{Meaning}
use Rattle.name_meanings.specs.name_entries.name_rules.declared.meaning.Meaning.TheVariants.{Here, Made, Import, Null, Nothing}
use Rattle.name_meanings.specs.Means.{row_of}
use Rattle.mark_bits.specs.declared.chunk.Chunk.{Chunk}
use Rattle.mark_bits.specs.Words.{bit_of}
use Rattle.name_unresolved.specs.Refers.{SymbolAt, refers}
use Rattle.name_unresolved.specs.Least.{least}

abbrev pub is_nothing : Option Meaning → Bool
is_nothing None = false
is_nothing (Some (Here input symbol)) = false
is_nothing (Some (Made number)) = false
is_nothing (Some (Import number)) = false
is_nothing (Some Null) = false
is_nothing (Some Nothing) = true

-- The symbol is there, and means nothing.
abbrev pub is_open : List (List Meaning) → SymbolAt → Bool
is_open rows s = is_nothing (slice_get (row_of rows s.0) s.1)

-- The chunks whose bits are set, from a number on.
abbrev pub live_from : List ℕ → ℕ → List Chunk → List Chunk
live_from words number [] = []
live_from words number (c ∷ cs) =
    if bit_of words number == 1 then c ∷ live_from words (number + 1) cs else live_from words (number + 1) cs

-- The symbols to which live chunks refer and that mean nothing.
abbrev pub open_refs : List Object → List (List Meaning) → List ℕ → List Chunk → List SymbolAt
open_refs objects rows words chunks = filter (is_open rows) (flat_map (refers objects) (live_from words 0 chunks))

-- The least of them.
unfoldable pub first_unresolved_of : List Object → List (List Meaning) → List ℕ → List Chunk → Option SymbolAt
first_unresolved_of objects rows words chunks = least (open_refs objects rows words chunks)

-- Each symbol of each object has a meaning.
abbrev pub AreMeant : List (List Meaning) → List Object → Type 0
AreMeant rows objects = All (λ (o : Object). length (row_of rows o.input) ≡ length o.symbols) objects
