-- Worked examples.
use Rattle.std.specs.Prelude.{◌≡◌, [], ◌∷◌, true, false, Some, None, Ok, Err}
use Rattle.std.proofs.Common.{refl}
use Rattle.wasm_grammar.specs.leb_codec.Reading.{number_at, end_of, end_within}
use Rattle.wasm_grammar.specs.wl_base.declared.item.Item.TheVariants as items
use Rattle.wasm_grammar.specs.declared.fault.Stop.TheVariants.{Broken, Foreign}
use Rattle.wasm_grammar.specs.Reading.{u32_at, s33_at, many_at, vector_at}
use Rattle.wasm_types.specs.declared.value.ValType.TheVariants.{I32}
use Rattle.wasm_types.specs.Types.{val_type_at}
use Rattle.wasm_instr.specs.declared.instr.BlockKind.TheVariants as blocks
use Rattle.wasm_instr.specs.declared.instr.Instr.TheVariants.{Plain, Block, BranchTable, Local, Access, F32Const}
use Rattle.wasm_instr.specs.declared.outline.Outline.TheVariants as outlines
use Rattle.wasm_instr.specs.Classes.{class_of}
use Rattle.wasm_instr.specs.Reading.{index_kind_at, block_kind_at, f32_at, instr_at}
use Rattle.wasm_instr.specs.Bodies.{run_at, runs_at, locals_at, step_of, code_at, body_at}
use Rattle.wasm_instr.specs.Skimming.{skim_at, skip_locals_at}

-- no locals, local.get 0, local.get 1, i64.add, end
sum_here : body_at (0x00 ∷ 0x20 ∷ 0x00 ∷ 0x20 ∷ 0x01 ∷ 0x7c ∷ 0x0b ∷ [])
    ≡ Ok (record {
      locals = [];
      code = record { instr = Local 0x20 0; at = 1; mid = 2; end = 3 }
          ∷ record { instr = Local 0x20 1; at = 3; mid = 4; end = 5 }
          ∷ record { instr = Plain 0x7c; at = 5; mid = 6; end = 6 }
          ∷ record { instr = Plain 0x0b; at = 6; mid = 7; end = 7 }
          ∷ [];
    })
unfolding body_at locals_at runs_at code_at instr_at class_of u32_at number_at end_of end_within
sum_here = refl

-- f32.const 1.0, drop, end
float_here : body_at (0x00 ∷ 0x43 ∷ 0x00 ∷ 0x00 ∷ 0x80 ∷ 0x3f ∷ 0x1a ∷ 0x0b ∷ [])
    ≡ Ok (record {
      locals = [];
      code = record { instr = F32Const 0x3f800000; at = 1; mid = 2; end = 6 }
          ∷ record { instr = Plain 0x1a; at = 6; mid = 7; end = 7 }
          ∷ record { instr = Plain 0x0b; at = 7; mid = 8; end = 8 }
          ∷ [];
    })
unfolding body_at locals_at runs_at code_at instr_at class_of f32_at u32_at number_at end_of end_within
float_here = refl

-- an `if` with an `else`, in a body with two locals
if_here : body_at (0x01 ∷ 0x02 ∷ 0x7f ∷ 0x04 ∷ 0x40 ∷ 0x05 ∷ 0x0b ∷ 0x0b ∷ [])
    ≡ Ok (record {
      locals = record { count = 2; kind = I32 } ∷ [];
      code = record { instr = Block 0x04 blocks.Empty; at = 3; mid = 4; end = 5 }
          ∷ record { instr = Plain 0x05; at = 5; mid = 6; end = 6 }
          ∷ record { instr = Plain 0x0b; at = 6; mid = 7; end = 7 }
          ∷ record { instr = Plain 0x0b; at = 7; mid = 8; end = 8 }
          ∷ [];
    })
unfolding body_at locals_at runs_at run_at code_at instr_at class_of block_kind_at val_type_at u32_at number_at end_of end_within
if_here = refl

-- a second `else` in one `if`
else_broken : body_at (0x00 ∷ 0x04 ∷ 0x40 ∷ 0x05 ∷ 0x05 ∷ 0x0b ∷ 0x0b ∷ []) ≡ Err (Broken 4)
unfolding body_at locals_at runs_at code_at instr_at class_of block_kind_at u32_at number_at end_of end_within
else_broken = refl

-- a byte behind the `end` that closes the body
end_broken : body_at (0x00 ∷ 0x0b ∷ 0x01 ∷ []) ≡ Err (Broken 2)
unfolding body_at locals_at runs_at code_at instr_at class_of u32_at number_at end_of end_within
end_broken = refl

-- 2^32 - 1 locals and one more, of a type that is foreign: the count comes first
locals_broken : body_at (0x02 ∷ 0xff ∷ 0xff ∷ 0xff ∷ 0xff ∷ 0x0f ∷ 0x7f ∷ 0x01 ∷ 0x7b ∷ 0x0b ∷ []) ≡ Err (Broken 7)
unfolding body_at locals_at runs_at run_at val_type_at u32_at number_at end_of end_within
locals_broken = refl

-- an opcode of vectors, and `memory.init`
vector_foreign : body_at (0x00 ∷ 0xfd ∷ 0x0b ∷ []) ≡ Err (Foreign (items.Opcode 253 0))
unfolding body_at locals_at runs_at code_at instr_at class_of u32_at number_at end_of end_within
vector_foreign = refl

init_foreign : body_at (0x00 ∷ 0xfc ∷ 0x08 ∷ []) ≡ Err (Foreign (items.Opcode 252 8))
unfolding body_at locals_at runs_at code_at instr_at class_of u32_at number_at end_of end_within
init_foreign = refl

-- block types: 64 as an index, -63, which is none, and v128
index_here : block_kind_at 10 (0xc0 ∷ 0x00 ∷ 0x0b ∷ []) ≡ Ok (blocks.Index 64, 0x0b ∷ [])
unfolding block_kind_at index_kind_at s33_at number_at end_of end_within
index_here = refl

index_broken : block_kind_at 10 (0x41 ∷ 0x0b ∷ []) ≡ Err (Broken 8)
unfolding block_kind_at
index_broken = refl

vector_kind : block_kind_at 10 (0x7b ∷ 0x0b ∷ []) ≡ Err (Foreign (items.ValueType 0x7b))
unfolding block_kind_at
vector_kind = refl

-- i32.load with an alignment of 4 and a padded offset of 1028, and a byte behind it
load_here : instr_at 10 (0x28 ∷ 0x02 ∷ 0x84 ∷ 0x88 ∷ 0x80 ∷ 0x80 ∷ 0x00 ∷ 0x1a ∷ []) ≡ Ok (Access 0x28 2 1028, 0x84 ∷ 0x88 ∷ 0x80 ∷ 0x80 ∷ 0x00 ∷ 0x1a ∷ [], 0x1a ∷ [])
unfolding instr_at class_of u32_at number_at end_of end_within
load_here = refl

load_skimmed : skim_at 10 (0x28 ∷ 0x02 ∷ 0x84 ∷ 0x88 ∷ 0x80 ∷ 0x80 ∷ 0x00 ∷ 0x1a ∷ []) ≡ Ok (outlines.Access, 0x84 ∷ 0x88 ∷ 0x80 ∷ 0x80 ∷ 0x00 ∷ 0x1a ∷ [], 0x1a ∷ [])
unfolding skim_at instr_at class_of u32_at number_at end_of end_within
load_skimmed = refl

-- br_table 1 2 0: its last immediate is the label 0
table_here : instr_at 10 (0x0e ∷ 0x02 ∷ 0x01 ∷ 0x02 ∷ 0x00 ∷ []) ≡ Ok (BranchTable (1 ∷ 2 ∷ []) 0, 0x00 ∷ [], [])
unfolding instr_at class_of vector_at many_at u32_at number_at end_of end_within
table_here = refl

-- past one run of locals
locals_skipped : skip_locals_at 10 (0x01 ∷ 0x02 ∷ 0x7f ∷ 0x0b ∷ []) ≡ Ok (0x0b ∷ [])
unfolding skip_locals_at locals_at runs_at run_at val_type_at u32_at number_at end_of end_within
locals_skipped = refl

-- an `if` may have an `else`, a loop may have none
if_opens : step_of (false ∷ []) (Block 0x04 blocks.Empty) ≡ Some (false ∷ true ∷ [])
if_opens = refl

loop_has_no_else : step_of (false ∷ false ∷ []) (Plain 0x05) ≡ None
loop_has_no_else = refl
