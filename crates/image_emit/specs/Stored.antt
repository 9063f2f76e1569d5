-- Blocks in memory (Core 4.5.4): one after another, or as one segment.
use Rattle.std.specs.Prelude.{◌≡◌, ℕ, ◌+◌, ◌≤◌, List, [], ◌∷◌, ◌++◌, length, take, drop, replicate}
use Rattle.image_emit.specs.Bytes.{Block, data_bytes}

-- Memory with bytes at an address.
abbrev pub put : ℕ → List ℕ → List ℕ → List ℕ
put at bytes memory = take at memory ++ bytes ++ drop (at + length bytes) memory

-- With each block, one after another.
abbrev pub stored : List Block → List ℕ → List ℕ
stored [] memory = memory
stored (b ∷ bs) memory = stored bs (put b.address b.bytes memory)

-- The blocks rise from an address on and don't overlap, up to the end of memory.
abbrev pub Rise : ℕ → ℕ → List Block → Type 0
Rise at end [] = at ≤ end
Rise at end (b ∷ bs) = (at ≤ b.address) × Rise (b.address + length b.bytes) end bs

abbrev pub first_address : List Block → ℕ
first_address [] = 0
first_address (b ∷ bs) = b.address

-- All blocks, or the one data segment that holds them and the zeros between them: memory that was zero holds the same.
abbrev pub OneSegment : Type 0
OneSegment = (blocks : List Block) (end : ℕ) → Rise 0 end blocks → stored blocks (replicate end 0) ≡ put (first_address blocks) (data_bytes blocks) (replicate end 0)
