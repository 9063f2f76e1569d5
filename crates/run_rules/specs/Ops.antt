-- An instruction of a module, with the module's answers in the place of its indexes.
use Rattle.std.specs.Prelude.{ℕ, ◌==◌, List, [], ◌∷◌, Option, Some, None, slice_get, if◌then◌else◌}
use Rattle.wasm_types.specs.declared.function.FuncType.{FuncType}
use Rattle.wasm_instr.specs.declared.instr.Instr.{Instr}
use Rattle.wasm_instr.specs.declared.instr.Instr.TheVariants.{Block, Call, CallIndirect, GlobalAt}
use Rattle.wasm_instr.specs.declared.instr.BlockKind.{BlockKind}
use Rattle.wasm_instr.specs.declared.instr.BlockKind.TheVariants as blocks
use Rattle.run_rules.specs.declared.op.Op.{Op}
use Rattle.run_rules.specs.declared.op.Op.TheVariants.{Own, OpenBlock, CallTo, CallThrough, ReadCell, WriteCell, Absent}

-- The type that a block is written with (Core 5.4.1), where indexes of types stand for these.
abbrev pub block_type : List FuncType → BlockKind → Option FuncType
block_type types blocks.Empty = Some (record { params = []; results = [] })
block_type types (blocks.Value t) = Some (record { params = []; results = t ∷ [] })
block_type types (blocks.Index n) = slice_get types n

abbrev pub opening : ℕ → Option FuncType → Op
opening op None = Absent
opening op (Some t) = OpenBlock op t

abbrev pub calling : Option FuncType → Op
calling None = Absent
calling (Some t) = CallThrough t

-- 23 global.get, 24 global.set
abbrev pub cell_op : ℕ → ℕ → Op
cell_op op c = if op == 0x23 then ReadCell c else if op == 0x24 then WriteCell c else Absent

-- With the module's types, and the cell that each global is. Only table 0 is there.
abbrev pub op_of : List FuncType → (ℕ → ℕ) → Instr → Op
op_of types cell (Block op kind) = opening op (block_type types kind)
op_of types cell (Call f) = CallTo f
op_of types cell (CallIndirect kind table) = if table == 0 then calling (slice_get types kind) else Absent
op_of types cell (GlobalAt op g) = cell_op op (cell g)
op_of types cell x = Own x
