-- Reading an instruction (WebAssembly Core Specification 2.0, section 5.4), or the first fault from
-- the left.
--
-- An opcode that isn't linked is foreign as soon as it is read. Any other byte that is outside the
-- grammar is broken, a number at its first byte, and what runs out at the end.
use Rattle.std.specs.Prelude.{ℕ, ◌-◌, ℤ, pos, negsuc, List, length, take, drop, nat_le, Result, Ok, Err, ◌==◌, if◌then◌else◌}
use Rattle.std.specs.Int.{from_le_bytes, w32, w64}
use Rattle.wasm_grammar.specs.wl_base.declared.item.Item.TheVariants as items
use Rattle.wasm_grammar.specs.declared.fault.Stop.{Stop}
use Rattle.wasm_grammar.specs.declared.fault.Stop.TheVariants.{Broken, Foreign}
use Rattle.wasm_grammar.specs.Reading.{Read, ◌>>=◌, byte_at, tag_at, u32_at, s32_at, s33_at, s64_at, vector_at}
use Rattle.wasm_types.specs.Types.{val_type_of, val_type_at}
use Rattle.wasm_instr.specs.Classes.{between, class_of}
use Rattle.wasm_instr.specs.declared.class.Class.{Class}
use Rattle.wasm_instr.specs.declared.class.Class.TheVariants as classes
use Rattle.wasm_instr.specs.declared.instr.BlockKind.{BlockKind}
use Rattle.wasm_instr.specs.declared.instr.BlockKind.TheVariants as blocks
use Rattle.wasm_instr.specs.declared.instr.Instr.{Instr}
use Rattle.wasm_instr.specs.declared.instr.Instr.TheVariants.{Plain, Block, Branch, BranchTable, Call, CallIndirect, SelectTyped, Local, GlobalAt, Access, MemorySize, MemoryGrow, I32Const, I64Const, F32Const, F64Const, Truncate, MemoryCopy, MemoryFill}

-- What reads an instruction: from the place of the end and the bytes to the instruction, the bytes
-- from its last immediate on, and the bytes after it.
abbrev pub ReadInstr : Type 0
ReadInstr = ℕ → List ℕ → Result (Instr × List ℕ × List ℕ) Stop

-- ---- block types

-- An index, of a number at this place. A negative one is broken.
abbrev pub index_of : ℕ → ℤ → List ℕ → Result (BlockKind × List ℕ) Stop
index_of place (pos n) rest = Ok (blocks.Index n, rest)
index_of place (negsuc n) rest = Err (Broken place)

-- A type that is an index (Core 5.4.1).
unfoldable pub index_kind_at : Read BlockKind
index_kind_at end bytes = do
  n ← s33_at end bytes
  index_of (end - length bytes) n.0 n.1

-- A type that is one value, of a byte at this place.
abbrev pub value_kind : ℕ → ℕ → List ℕ → Result (BlockKind × List ℕ) Stop
value_kind place byte rest = do
  t ← val_type_of place byte
  Ok (blocks.Value t, rest)

-- The type of a block whose first byte this is. The bytes from 40 to 7F are negative numbers in
-- themselves: the empty type, value types, foreign ones, or broken (Core 5.4.1).
abbrev pub kind_of : ℕ → ℕ → List ℕ → List ℕ → Result (BlockKind × List ℕ) Stop
kind_of byte end bytes rest =
    if byte == 0x40 then Ok (blocks.Empty, rest)
    else (if between 0x41 0x7f byte then value_kind (end - length bytes) byte rest
    else index_kind_at end bytes)

-- The type of a block (Core 5.4.1).
unfoldable pub block_kind_at : Read BlockKind
block_kind_at end bytes = do
  byte ← byte_at end bytes
  kind_of byte.0 end bytes byte.1

-- ---- the bits of floats: the lowest byte first (Core 5.2.3), and broken at the end where they run
-- out

unfoldable pub f32_at : Read ℕ
f32_at end bytes = if nat_le 4 (length bytes) then Ok (from_le_bytes w32 (take 4 bytes), drop 4 bytes) else Err (Broken end)

unfoldable pub f64_at : Read ℕ
f64_at end bytes = if nat_le 8 (length bytes) then Ok (from_le_bytes w64 (take 8 bytes), drop 8 bytes) else Err (Broken end)

-- ---- the immediates of each class, behind the opcode

abbrev pub block_at : ℕ → ReadInstr
block_at op end rest = do
  kind ← block_kind_at end rest
  Ok (Block op kind.0, rest, kind.1)

abbrev pub branch_at : ℕ → ReadInstr
branch_at op end rest = do
  label ← u32_at end rest
  Ok (Branch op label.0, rest, label.1)

abbrev pub branch_table_at : ReadInstr
branch_table_at end rest = do
  labels ← vector_at u32_at end rest
  last ← u32_at end labels.1
  Ok (BranchTable labels.0 last.0, labels.1, last.1)

abbrev pub call_at : ReadInstr
call_at end rest = do
  function ← u32_at end rest
  Ok (Call function.0, rest, function.1)

abbrev pub call_indirect_at : ReadInstr
call_indirect_at end rest = do
  kind ← u32_at end rest
  table ← u32_at end kind.1
  Ok (CallIndirect kind.0 table.0, kind.1, table.1)

abbrev pub select_typed_at : ReadInstr
select_typed_at end rest = do
  kinds ← vector_at val_type_at end rest
  Ok (SelectTyped kinds.0, rest, kinds.1)

abbrev pub local_at : ℕ → ReadInstr
local_at op end rest = do
  local ← u32_at end rest
  Ok (Local op local.0, rest, local.1)

abbrev pub global_at : ℕ → ReadInstr
global_at op end rest = do
  global ← u32_at end rest
  Ok (GlobalAt op global.0, rest, global.1)

abbrev pub access_at : ℕ → ReadInstr
access_at op end rest = do
  align ← u32_at end rest
  offset ← u32_at end align.1
  Ok (Access op align.0 offset.0, align.1, offset.1)

-- An instruction whose last immediate is the byte 00 (Core 5.4.6).
abbrev pub zero_at : Instr → ReadInstr
zero_at x end rest = do
  after ← tag_at 0 end rest
  Ok (x, rest, after)

abbrev pub i32_const_at : ReadInstr
i32_const_at end rest = do
  n ← s32_at end rest
  Ok (I32Const n.0, rest, n.1)

abbrev pub i64_const_at : ReadInstr
i64_const_at end rest = do
  n ← s64_at end rest
  Ok (I64Const n.0, rest, n.1)

abbrev pub f32_const_at : ReadInstr
f32_const_at end rest = do
  n ← f32_at end rest
  Ok (F32Const n.0, rest, n.1)

abbrev pub f64_const_at : ReadInstr
f64_const_at end rest = do
  n ← f64_at end rest
  Ok (F64Const n.0, rest, n.1)

abbrev pub memory_copy_at : ReadInstr
memory_copy_at end rest = do
  mid ← tag_at 0 end rest
  zero_at MemoryCopy end mid

-- The instruction of this number after FC: 0 to 7 are the conversions that saturate (Core 5.4.7), 10
-- and 11 `memory.copy` and `memory.fill` (Core 5.4.6). Another number is foreign.
abbrev pub numbered : ℕ → ReadInstr
numbered n end rest =
    if nat_le n 7 then Ok (Truncate n, rest, rest)
    else (if n == 10 then memory_copy_at end rest
    else (if n == 11 then zero_at MemoryFill end rest
    else Err (Foreign (items.Opcode 0xfc n))))

abbrev pub numbered_at : ReadInstr
numbered_at end rest = do
  n ← u32_at end rest
  numbered n.0 end n.1

-- The instruction behind an opcode of this class.
abbrev pub immediates_at : Class → ℕ → ReadInstr
immediates_at classes.Plain op end rest = Ok (Plain op, rest, rest)
immediates_at classes.Block op end rest = block_at op end rest
immediates_at classes.Branch op end rest = branch_at op end rest
immediates_at classes.BranchTable op end rest = branch_table_at end rest
immediates_at classes.Call op end rest = call_at end rest
immediates_at classes.CallIndirect op end rest = call_indirect_at end rest
immediates_at classes.SelectTyped op end rest = select_typed_at end rest
immediates_at classes.Local op end rest = local_at op end rest
immediates_at classes.GlobalAt op end rest = global_at op end rest
immediates_at classes.Access op end rest = access_at op end rest
immediates_at classes.MemorySize op end rest = zero_at MemorySize end rest
immediates_at classes.MemoryGrow op end rest = zero_at MemoryGrow end rest
immediates_at classes.I32Const op end rest = i32_const_at end rest
immediates_at classes.I64Const op end rest = i64_const_at end rest
immediates_at classes.F32Const op end rest = f32_const_at end rest
immediates_at classes.F64Const op end rest = f64_const_at end rest
immediates_at classes.Numbered op end rest = numbered_at end rest
immediates_at classes.Foreign op end rest = Err (Foreign (items.Opcode op 0))

-- The instruction at the front (Core 5.4).
unfoldable pub instr_at : ReadInstr
instr_at end bytes = do
  op ← byte_at end bytes
  immediates_at (class_of op.0) op.0 end op.1
