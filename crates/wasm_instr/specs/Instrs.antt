-- Which bytes spell an instruction (WebAssembly Core Specification 2.0, section 5.4): those up to its
-- last immediate, and that immediate.
use Rattle.std.specs.Prelude.{◌≡◌, ℕ, ◌≤◌, List, length, pos}
use Rattle.std.specs.Int.{from_le_bytes, w32, w64}
use Rattle.wasm_grammar.specs.Grammar.{SpellsNothing, SpellsByte, SpellsU32, SpellsS32, SpellsS33, SpellsS64, SpellsVector, Then}
use Rattle.wasm_types.specs.Types.{SpellsValType}
use Rattle.wasm_instr.specs.Classes.{class_of}
use Rattle.wasm_instr.specs.declared.class.Class.TheVariants as classes
use Rattle.wasm_instr.specs.declared.instr.BlockKind.{BlockKind}
use Rattle.wasm_instr.specs.declared.instr.BlockKind.TheVariants as blocks
use Rattle.wasm_instr.specs.declared.instr.Instr.{Instr}
use Rattle.wasm_instr.specs.declared.instr.Instr.TheVariants.{Plain, Block, Branch, BranchTable, Call, CallIndirect, SelectTyped, Local, GlobalAt, Access, MemorySize, MemoryGrow, I32Const, I64Const, F32Const, F64Const, Truncate, MemoryCopy, MemoryFill}

-- The type of a block: 40, a value type, or an index as an s33 that isn't negative (Core 5.4.1).
abbrev pub SpellsBlockKind : BlockKind → List ℕ → Type 0
SpellsBlockKind blocks.Empty bytes = SpellsByte 0x40 bytes
SpellsBlockKind (blocks.Value t) bytes = SpellsValType t bytes
SpellsBlockKind (blocks.Index n) bytes = SpellsS33 (pos n) bytes

-- The bits of a float, the lowest byte first (Core 5.2.3).
abbrev pub SpellsF32 : ℕ → List ℕ → Type 0
SpellsF32 n bytes = (length bytes ≡ 4) × (n ≡ from_le_bytes w32 bytes)

abbrev pub SpellsF64 : ℕ → List ℕ → Type 0
SpellsF64 n bytes = (length bytes ≡ 8) × (n ≡ from_le_bytes w64 bytes)

-- The opcode, and the immediates but the last. Those of control are in Core 5.4.1, of `select` in
-- 5.4.3, of variables in 5.4.4, of memory in 5.4.6, of numbers in 5.4.7.
abbrev pub SpellsHead : Instr → List ℕ → Type 0
SpellsHead (Plain op) bytes = SpellsByte op bytes
SpellsHead (Block op kind) bytes = SpellsByte op bytes
SpellsHead (Branch op label) bytes = SpellsByte op bytes
SpellsHead (BranchTable labels last) bytes = Then (SpellsByte 0x0e) (SpellsVector SpellsU32 labels) bytes
SpellsHead (Call function) bytes = SpellsByte 0x10 bytes
SpellsHead (CallIndirect kind table) bytes = Then (SpellsByte 0x11) (SpellsU32 kind) bytes
SpellsHead (SelectTyped kinds) bytes = SpellsByte 0x1c bytes
SpellsHead (Local op local) bytes = SpellsByte op bytes
SpellsHead (GlobalAt op global) bytes = SpellsByte op bytes
SpellsHead (Access op align offset) bytes = Then (SpellsByte op) (SpellsU32 align) bytes
SpellsHead MemorySize bytes = SpellsByte 0x3f bytes
SpellsHead MemoryGrow bytes = SpellsByte 0x40 bytes
SpellsHead (I32Const n) bytes = SpellsByte 0x41 bytes
SpellsHead (I64Const n) bytes = SpellsByte 0x42 bytes
SpellsHead (F32Const n) bytes = SpellsByte 0x43 bytes
SpellsHead (F64Const n) bytes = SpellsByte 0x44 bytes
SpellsHead (Truncate n) bytes = Then (SpellsByte 0xfc) (SpellsU32 n) bytes
SpellsHead MemoryCopy bytes = Then (SpellsByte 0xfc) (Then (SpellsU32 10) (SpellsByte 0)) bytes
SpellsHead MemoryFill bytes = Then (SpellsByte 0xfc) (SpellsU32 11) bytes

-- The last immediate, where there is one.
abbrev pub SpellsLast : Instr → List ℕ → Type 0
SpellsLast (Plain op) bytes = SpellsNothing bytes
SpellsLast (Block op kind) bytes = SpellsBlockKind kind bytes
SpellsLast (Branch op label) bytes = SpellsU32 label bytes
SpellsLast (BranchTable labels last) bytes = SpellsU32 last bytes
SpellsLast (Call function) bytes = SpellsU32 function bytes
SpellsLast (CallIndirect kind table) bytes = SpellsU32 table bytes
SpellsLast (SelectTyped kinds) bytes = SpellsVector SpellsValType kinds bytes
SpellsLast (Local op local) bytes = SpellsU32 local bytes
SpellsLast (GlobalAt op global) bytes = SpellsU32 global bytes
SpellsLast (Access op align offset) bytes = SpellsU32 offset bytes
SpellsLast MemorySize bytes = SpellsByte 0 bytes
SpellsLast MemoryGrow bytes = SpellsByte 0 bytes
SpellsLast (I32Const n) bytes = SpellsS32 n bytes
SpellsLast (I64Const n) bytes = SpellsS64 n bytes
SpellsLast (F32Const n) bytes = SpellsF32 n bytes
SpellsLast (F64Const n) bytes = SpellsF64 n bytes
SpellsLast (Truncate n) bytes = SpellsNothing bytes
SpellsLast MemoryCopy bytes = SpellsByte 0 bytes
SpellsLast MemoryFill bytes = SpellsByte 0 bytes

-- The opcode, where the variant leaves it open, is of the variant's class, and the number of a
-- conversion that saturates is from 0 to 7 (Core 5.4.7).
abbrev pub IsInProfile : Instr → Type 0
IsInProfile (Plain op) = class_of op ≡ classes.Plain
IsInProfile (Block op kind) = class_of op ≡ classes.Block
IsInProfile (Branch op label) = class_of op ≡ classes.Branch
IsInProfile (Local op local) = class_of op ≡ classes.Local
IsInProfile (GlobalAt op global) = class_of op ≡ classes.GlobalAt
IsInProfile (Access op align offset) = class_of op ≡ classes.Access
IsInProfile (Truncate n) = n ≤ 7
IsInProfile _ = Unit {0}

-- An instruction (Core 5.4).
abbrev pub SpellsInstr : Instr → List ℕ → Type 0
SpellsInstr x bytes = IsInProfile x × Then (SpellsHead x) (SpellsLast x) bytes
