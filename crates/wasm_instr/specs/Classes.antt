-- What follows an opcode.
use Rattle.std.specs.Prelude.{ℕ, Bool, nat_le, ◌==◌, ◌||◌, ◌&&◌, if◌then◌else◌}
use Rattle.wasm_instr.specs.declared.class.Class.{Class}
use Rattle.wasm_instr.specs.declared.class.Class.TheVariants.{Plain, Block, Branch, BranchTable, Call, CallIndirect, SelectTyped, Local, GlobalAt, Access, MemorySize, MemoryGrow, I32Const, I64Const, F32Const, F64Const, Numbered, Foreign}

-- Whether an opcode is one from low to high.
abbrev pub between : ℕ → ℕ → ℕ → Bool
between low high op = nat_le low op && nat_le op high

-- The class of an opcode.
--
-- Plain: unreachable 00, nop 01, else 05, end 0B, return 0F (WebAssembly Core Specification 2.0,
-- section 5.4.1), drop 1A, select 1B (5.4.3), and 45 to C4, all that compares, computes and converts
-- numbers (5.4.7). Block, Branch, BranchTable, Call, CallIndirect: 5.4.1. SelectTyped: 5.4.3. Local,
-- GlobalAt: 5.4.4. Access, MemorySize, MemoryGrow: 5.4.6. Constants: 5.4.7. Numbered: FC, and the
-- number behind it says the rest (5.4.5 to 5.4.7). Foreign: what isn't linked, as references (5.4.2),
-- tables (5.4.5), vectors (5.4.8), and bytes that are no opcode.
unfoldable pub class_of : ℕ → Class
class_of op =
    if (op == 0x00) || (op == 0x01) || (op == 0x05) || (op == 0x0b) || (op == 0x0f) || (op == 0x1a) || (op == 0x1b) then Plain
    else (if between 0x02 0x04 op then Block
    else (if (op == 0x0c) || (op == 0x0d) then Branch
    else (if op == 0x0e then BranchTable
    else (if op == 0x10 then Call
    else (if op == 0x11 then CallIndirect
    else (if op == 0x1c then SelectTyped
    else (if between 0x20 0x22 op then Local
    else (if (op == 0x23) || (op == 0x24) then GlobalAt
    else (if between 0x28 0x3e op then Access
    else (if op == 0x3f then MemorySize
    else (if op == 0x40 then MemoryGrow
    else (if op == 0x41 then I32Const
    else (if op == 0x42 then I64Const
    else (if op == 0x43 then F32Const
    else (if op == 0x44 then F64Const
    else (if between 0x45 0xc4 op then Plain
    else (if op == 0xfc then Numbered
    else Foreign)))))))))))))))))
