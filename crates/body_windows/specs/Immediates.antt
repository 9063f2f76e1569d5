-- The immediates of a body that can be a reference, and the relocations that may stand on them (tool
-- conventions, Linking.md, 'Relocation Sections').
use Rattle.std.specs.Prelude.{ℕ, ◌+◌, ◌-◌, ◌≤◌, Bool, true, false, not, ◌==◌, ◌&&◌, ◌||◌, if◌then◌else◌, List, [], ◌∷◌, ◌++◌}
use Rattle.wasm_instr.specs.declared.body.Placed.{Placed}
use Rattle.wasm_instr.specs.declared.instr.BlockKind.TheVariants as blocks
use Rattle.wasm_instr.specs.declared.instr.Instr.{Instr}
use Rattle.wasm_instr.specs.declared.instr.Instr.TheVariants as instrs
use Rattle.reloc_section.specs.declared.entry.Reloc.{Reloc}
use Rattle.reloc_section.specs.declared.kinds.TheConstants.{FUNCTION_INDEX_LEB, TABLE_INDEX_SLEB, MEMORY_ADDR_LEB, MEMORY_ADDR_SLEB, TYPE_INDEX_LEB, GLOBAL_INDEX_LEB, MEMORY_ADDR_REL_SLEB, TABLE_INDEX_REL_SLEB, TABLE_NUMBER_LEB}
use Rattle.body_windows.specs.declared.operand.Operand.{Operand}
use Rattle.body_windows.specs.declared.operand.Operand.TheVariants as operands
use Rattle.body_windows.specs.declared.immediate.Immediate.{Immediate}
use Rattle.body_windows.specs.declared.immediate.ImmediateKind.{ImmediateKind}
use Rattle.body_windows.specs.declared.immediate.ImmediateKind.TheVariants.{FunctionIndex, TypeIndex, TableIndex, GlobalIndex, MemoryOffset, Constant}

-- The immediate that begins at the first place and ends at the second.
abbrev pub between : ImmediateKind → ℕ → ℕ → Immediate
between kind from to = record { kind = kind; place = from; len = to - from }

-- The immediates of an instruction that can be a reference, in order (Core 5.4): the index of a
-- type that a block has, the function of call, the type and the table of call_indirect, the global
-- of global.get and global.set, the offset of a load or store, and the number of i32.const. The
-- opcode stands at the first place, the last immediate at the second, and the third is the end.
abbrev pub immediates_in : Instr → ℕ → ℕ → ℕ → List Immediate
immediates_in (instrs.Block op (blocks.Index index)) at mid end = between TypeIndex mid end ∷ []
immediates_in (instrs.Call function) at mid end = between FunctionIndex mid end ∷ []
immediates_in (instrs.CallIndirect kind table) at mid end = between TypeIndex (at + 1) mid ∷ between (TableIndex table) mid end ∷ []
immediates_in (instrs.GlobalAt op global) at mid end = between GlobalIndex mid end ∷ []
immediates_in (instrs.Access op align offset) at mid end = between MemoryOffset mid end ∷ []
immediates_in (instrs.I32Const n) at mid end = between Constant mid end ∷ []
immediates_in _ at mid end = []

-- The immediates of instructions that can be a reference, in order.
abbrev pub immediates : List Placed → List Immediate
immediates [] = []
immediates (p ∷ code) = immediates_in p.instr p.at p.mid p.end ++ immediates code

-- Immediates stand one behind another, from a place on and up to an end.
abbrev pub AreInOrder : ℕ → ℕ → List Immediate → Type 0
AreInOrder from end [] = from ≤ end
AreInOrder from end (i ∷ is) = (from ≤ i.place) × (1 ≤ i.len) × AreInOrder (i.place + i.len) end is

-- The place after the last instruction, or the first place where there is none.
abbrev pub end_of : ℕ → List Placed → ℕ
end_of place [] = place
end_of place (p ∷ code) = end_of p.end code

-- Whether a relocation of this type may stand on an immediate.
abbrev pub may_stand : ℕ → ImmediateKind → Bool
may_stand kind FunctionIndex = kind == FUNCTION_INDEX_LEB
may_stand kind TypeIndex = kind == TYPE_INDEX_LEB
may_stand kind (TableIndex table) = kind == TABLE_NUMBER_LEB
may_stand kind GlobalIndex = kind == GLOBAL_INDEX_LEB
may_stand kind MemoryOffset = kind == MEMORY_ADDR_LEB
may_stand kind Constant =
    (kind == TABLE_INDEX_SLEB) || (kind == MEMORY_ADDR_SLEB)
    || (kind == MEMORY_ADDR_REL_SLEB) || (kind == TABLE_INDEX_REL_SLEB)

-- Whether a relocation has to stand on it: an index of the object means nothing in the output. Table 0
-- alone needs none; it is the indirect function table.
abbrev pub needs_window : ImmediateKind → Bool
needs_window FunctionIndex = true
needs_window TypeIndex = true
needs_window (TableIndex table) = not (table == 0)
needs_window GlobalIndex = true
needs_window MemoryOffset = false
needs_window Constant = false

-- The operand where none stands on it.
abbrev pub plain_operand : ImmediateKind → Operand
plain_operand (TableIndex table) = if table == 0 then operands.TableZero else operands.Number
plain_operand _ = operands.Number

-- Whether it is the window of a relocation: it stands there, it has the five bytes of a window, and
-- the type may stand on it. Its body begins at the place base.
abbrev pub fills : ℕ → Reloc → Immediate → Bool
fills base reloc i = ((base + i.place) == reloc.offset) && (i.len == 5) && may_stand reloc.kind i.kind

-- The operand where the relocation stands on it: TYPE_INDEX_LEB names a type, and all others a
-- symbol.
abbrev pub operand_of : Immediate → Reloc → Operand
operand_of i reloc =
    if reloc.kind == TYPE_INDEX_LEB then operands.TypeRef i.place reloc.index
    else operands.Symbol reloc.kind i.place reloc.index reloc.addend
