-- Memory: loads and stores, copies, and what is written at once (WebAssembly Core Specification 2.0, sections 4.3.2.1 and 4.4.7).
use Rattle.std.specs.Prelude.{ℕ, zero, suc, ◌+◌, ◌*◌, ◌/◌, ◌%◌, Bool, true, false, ◌==◌, ◌||◌, List, [], ◌∷◌, ◌++◌, length, take, drop, replicate, slice_set, nat_le, if◌then◌else◌}
use Rattle.wasm_types.specs.declared.value.ValType.{ValType}
use Rattle.wasm_types.specs.declared.value.ValType.TheVariants as types
use Rattle.run_rules.specs.declared.value.Value.{Value}
use Rattle.run_rules.specs.Numbers.{bits, value_of, extended}

-- The number of pages, of 65,536 bytes.
abbrev pub pages : List ℕ → ℕ
pages memory = length memory / 65536

-- so many pages of zeros
abbrev pub zeros : ℕ → List ℕ
zeros n = replicate (65536 * n) 0

-- the number that bytes spell, the low one first
unfoldable pub from_bytes : List ℕ → ℕ
from_bytes [] = 0
from_bytes (b ∷ bs) = b + 256 * from_bytes bs

-- so many bytes of a number, written from a place on
unfoldable pub stored : ℕ → ℕ → ℕ → List ℕ → List ℕ
stored zero at n memory = memory
stored (suc k) at n memory = stored k (at + 1) (n / 256) (slice_set memory at (n % 256))

-- the memory with these bytes from a place on
unfoldable pub written : ℕ → List ℕ → List ℕ → List ℕ
written at bytes memory = take at memory ++ bytes ++ drop (at + length bytes) memory

-- whether so many bytes from a place on are there
abbrev pub reaches : ℕ → ℕ → List ℕ → Bool
reaches at count memory = nat_le (at + count) (length memory)

-- ---- loads and stores

-- of a type, of so many bytes, and whether a load fills up by the sign
pub record Width : Type 0 where
  pub kind : ValType
  pub bytes : ℕ
  pub signed : Bool

abbrev pub wide : ValType → ℕ → Bool → Width
wide t n s = record { kind = t; bytes = n; signed = s }

-- what an opcode with an alignment and an offset is
pub data Reach : Type 0 where
  Loads Stores : Width → Reach
  Carries : Reach
  Neither : Reach

-- Loads (28 to 35) and stores (36 to 3E); those of floats are carried (Core 5.4.6).
abbrev pub reach : ℕ → Reach
reach op =
    if op == 0x28 then Loads (wide types.I32 4 false)
    else if op == 0x29 then Loads (wide types.I64 8 false)
    else if (op == 0x2A) || (op == 0x2B) || (op == 0x38) || (op == 0x39) then Carries
    else if op == 0x2C then Loads (wide types.I32 1 true)
    else if op == 0x2D then Loads (wide types.I32 1 false)
    else if op == 0x2E then Loads (wide types.I32 2 true)
    else if op == 0x2F then Loads (wide types.I32 2 false)
    else if op == 0x30 then Loads (wide types.I64 1 true)
    else if op == 0x31 then Loads (wide types.I64 1 false)
    else if op == 0x32 then Loads (wide types.I64 2 true)
    else if op == 0x33 then Loads (wide types.I64 2 false)
    else if op == 0x34 then Loads (wide types.I64 4 true)
    else if op == 0x35 then Loads (wide types.I64 4 false)
    else if op == 0x36 then Stores (wide types.I32 4 false)
    else if op == 0x37 then Stores (wide types.I64 8 false)
    else if op == 0x3A then Stores (wide types.I32 1 false)
    else if op == 0x3B then Stores (wide types.I32 2 false)
    else if op == 0x3C then Stores (wide types.I64 1 false)
    else if op == 0x3D then Stores (wide types.I64 2 false)
    else if op == 0x3E then Stores (wide types.I64 4 false)
    else Neither

-- the value that bytes are loaded as
abbrev pub loaded : Width → List ℕ → Value
loaded w bs = value_of w.kind (if w.signed then extended (8 * w.bytes) (bits w.kind) (from_bytes bs) else from_bytes bs)
