-- Numbered chunks.
use Rattle.std.specs.Prelude.{◌≡◌, ◌≢◌, ℕ, List, slice_get, Some}
use Rattle.mark_bits.specs.declared.chunk.Chunk.{Chunk}

-- no chunk stands at two places
abbrev pub Differ : List Chunk → Type 0
Differ cs = (j k : ℕ) (c : Chunk) → slice_get cs j ≡ Some c → slice_get cs k ≡ Some c → j ≡ k

-- the chunk stands nowhere
abbrev pub Lacks : List Chunk → Chunk → Type 0
Lacks cs c = (k : ℕ) → slice_get cs k ≢ Some c
