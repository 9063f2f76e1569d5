-- What roots reach: chunks are live exactly where a walk from a root ends at them.
use Rattle.std.specs.Prelude.{◌≡◌, ℕ, List, [], ◌∷◌, slice_index_or}
use Rattle.mark_bits.specs.Words.{Among}

-- the list of chunks that begins with a and goes on with the list ends at c, and in it each refers to the next
abbrev pub IsWalk : List (List ℕ) → ℕ → List ℕ → ℕ → Type 0
IsWalk targets a [] c = a ≡ c
IsWalk targets a (b ∷ bs) c = Among b (slice_index_or targets a []) × IsWalk targets b bs c

-- a walk from a root ends at the chunk
abbrev pub Reached : List (List ℕ) → List ℕ → ℕ → Type 0
Reached targets roots c = (a : ℕ) × Among a roots × (walk : List ℕ) × IsWalk targets a walk c
