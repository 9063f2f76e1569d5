-- Worked examples.
use Rattle.std.specs.Prelude.{◌≡◌, ℕ, pos, List, [], ◌∷◌, Ok, Err}
use Rattle.std.proofs.Common.{refl}
use Rattle.wasm_instr.specs.leb_codec.Reading.{number_at, end_of, end_within}
use Rattle.wasm_instr.specs.wl_base.declared.item.Item.TheVariants.{Opcode}
use Rattle.wasm_instr.specs.wasm_grammar.declared.fault.Stop.TheVariants.{Foreign}
use Rattle.wasm_instr.specs.wasm_grammar.Reading.{u32_at}
use Rattle.wasm_instr.specs.Classes.{class_of}
use Rattle.wasm_instr.specs.Reading.{instr_at}
use Rattle.wasm_instr.specs.Bodies.{locals_at, runs_at, code_at, body_at}
use Rattle.wasm_instr.specs.declared.body.Placed.{Placed}
use Rattle.wasm_instr.specs.declared.instr.BlockKind.TheVariants as blocks
use Rattle.wasm_instr.specs.declared.instr.Instr.{Instr}
use Rattle.wasm_instr.specs.declared.instr.Instr.TheVariants.{Plain, Block, Call, CallIndirect, GlobalAt, Access, I32Const}
use Rattle.reloc_section.specs.declared.entry.Reloc.{Reloc}
use Rattle.body_windows.specs.declared.operand.Operand.TheVariants.{Number, Symbol, TypeRef, TableZero}
use Rattle.body_windows.specs.declared.fault.Mismatch.TheVariants.{Overlap, OffImmediate, BareIndex}
use Rattle.body_windows.specs.Immediates.{immediates}
use Rattle.body_windows.specs.Windows.{operands_at}
use Rattle.body_windows.specs.Scanning.{scan_of}

abbrev placed : Instr → ℕ → ℕ → ℕ → Placed
placed x at mid end = record { instr = x; at = at; mid = mid; end = end }

abbrev reloc : ℕ → ℕ → Reloc
reloc kind offset = record { kind = kind; offset = offset; index = 9; addend = pos 4 }

-- `call 1` in five bytes, and the end of the body, which begins at 3.
abbrev call_one : List Placed
call_one = placed (Call 1) 1 2 7 ∷ placed (Plain 0x0b) 7 8 8 ∷ []

-- A FUNCTION_INDEX_LEB on it names a symbol; the place counts from the body's first byte.
symbol_here : operands_at 3 (reloc 0 5 ∷ []) (immediates call_one) ≡ Ok (Symbol 0 2 9 (pos 4) ∷ [])
unfolding operands_at
symbol_here = refl

-- Without one the index is bare, at its place in the code section.
bare_here : operands_at 3 [] (immediates call_one) ≡ Err (BareIndex 5)
unfolding operands_at
bare_here = refl

-- A GLOBAL_INDEX_LEB may not stand there, and no relocation a byte further on.
off_kind : operands_at 3 (reloc 7 5 ∷ []) (immediates call_one) ≡ Err (OffImmediate 5)
unfolding operands_at
off_kind = refl

off_place : operands_at 3 (reloc 0 6 ∷ []) (immediates call_one) ≡ Err (OffImmediate 6)
unfolding operands_at
off_place = refl

-- `call 1` in one byte is no window.
off_length : operands_at 3 (reloc 0 5 ∷ []) (immediates (placed (Call 1) 1 2 3 ∷ [])) ≡ Err (OffImmediate 5)
unfolding operands_at
off_length = refl

-- Windows at 5 and 9 overlap, before all else.
overlap_here : operands_at 3 (reloc 0 5 ∷ reloc 0 9 ∷ []) (immediates call_one) ≡ Err (Overlap 9)
unfolding operands_at
overlap_here = refl

-- Offsets that fall: the least of those that begin too early.
overlap_least : operands_at 3 (reloc 0 50 ∷ reloc 0 40 ∷ reloc 0 30 ∷ reloc 0 60 ∷ []) (immediates call_one) ≡ Err (Overlap 30)
unfolding operands_at
overlap_least = refl

-- `call_indirect` with a relocation on its type alone: table 0 is the indirect function table.
table_zero : operands_at 0 (reloc 6 2 ∷ []) (immediates (placed (CallIndirect 5 0) 1 7 8 ∷ [])) ≡ Ok (TypeRef 2 9 ∷ TableZero ∷ [])
unfolding operands_at
table_zero = refl

-- Table 1 has to have a relocation.
table_bare : operands_at 0 (reloc 6 2 ∷ []) (immediates (placed (CallIndirect 5 1) 1 7 8 ∷ [])) ≡ Err (BareIndex 7)
unfolding operands_at
table_bare = refl

table_window : operands_at 0 (reloc 6 2 ∷ reloc 20 7 ∷ []) (immediates (placed (CallIndirect 5 1) 1 7 12 ∷ [])) ≡ Ok (TypeRef 2 9 ∷ Symbol 20 7 9 (pos 4) ∷ [])
unfolding operands_at
table_window = refl

-- A constant, an offset and a global; the number that has no relocation stays.
others_here : operands_at 0 (reloc 11 2 ∷ reloc 3 9 ∷ reloc 7 15 ∷ []) (immediates (placed (I32Const (pos 1)) 1 2 7 ∷ placed (Access 0x2a 2 5) 7 9 14 ∷ placed (GlobalAt 0x23 0) 14 15 20 ∷ placed (I32Const (pos 1)) 20 21 22 ∷ []))
    ≡ Ok (Symbol 11 2 9 (pos 4) ∷ Symbol 3 9 9 (pos 4) ∷ Symbol 7 15 9 (pos 4) ∷ Number ∷ [])
unfolding operands_at
others_here = refl

-- The type of a block is a reference where it is an index.
block_here : operands_at 0 (reloc 6 2 ∷ []) (immediates (placed (Block 0x02 (blocks.Index 1)) 1 2 7 ∷ placed (Block 0x03 blocks.Empty) 7 8 9 ∷ [])) ≡ Ok (TypeRef 2 9 ∷ [])
unfolding operands_at
block_here = refl

-- The bytes of a body: no locals, `call 1` in five bytes, `end`.
scan_here : scan_of 3 (reloc 0 5 ∷ []) (0x00 ∷ 0x10 ∷ 0x81 ∷ 0x80 ∷ 0x80 ∷ 0x80 ∷ 0x00 ∷ 0x0b ∷ []) ≡ Ok (Ok (Symbol 0 2 9 (pos 4) ∷ []))
unfolding scan_of operands_at body_at locals_at runs_at code_at instr_at class_of u32_at number_at end_of end_within
scan_here = refl

-- An opcode that isn't carried comes before a window that is no immediate.
scan_foreign : scan_of 3 (reloc 0 5 ∷ []) (0x00 ∷ 0xfd ∷ 0x0b ∷ []) ≡ Err (Foreign (Opcode 0xfd 0))
unfolding scan_of operands_at body_at locals_at runs_at code_at instr_at class_of u32_at number_at end_of end_within
scan_foreign = refl
