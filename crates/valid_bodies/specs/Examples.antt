-- Worked bodies: whether they have a typing.
use Rattle.std.specs.Prelude.{◌≡◌, pos, List, [], ◌∷◌, map, Bool, true, false}
use Rattle.std.proofs.Common.{refl}
use Rattle.wasm_types.specs.declared.value.ValType.{ValType}
use Rattle.wasm_types.specs.declared.value.ValType.TheVariants.{I32, I64, F32}
use Rattle.wasm_instr.specs.declared.instr.BlockKind.TheVariants.{Value, Index}
use Rattle.wasm_instr.specs.declared.instr.Instr.{Instr}
use Rattle.wasm_instr.specs.declared.instr.Instr.TheVariants.{Plain, Block, BranchTable, Call, CallIndirect, SelectTyped, Local, GlobalAt, Access, MemorySize, I32Const, I64Const, Truncate}
use Rattle.valid_rules.specs.Reading.{read, step}
use Rattle.valid_bodies.specs.declared.types.Context.{Context}
use Rattle.valid_bodies.specs.Numeric.{numeric, truncation}
use Rattle.valid_bodies.specs.Accesses.{access}
use Rattle.valid_bodies.specs.Shapes.{plain, run_type, shape}
use Rattle.valid_bodies.specs.Went.{accepts}

-- One type, i32 and i64 to i64; a function of it; tables of funcref and of externref; globals of i32, const and var.
abbrev rich : Context
rich = record {
  types = record { params = I32 ∷ I64 ∷ []; results = I64 ∷ [] } ∷ [];
  functions = 0 ∷ [];
  tables = true ∷ false ∷ [];
  memory = true;
  globals = record { kind = I32; var = false } ∷ record { kind = I32; var = true } ∷ [];
}

abbrev bare : Context
bare = record { types = []; functions = []; tables = []; memory = false; globals = [] }

-- In a function from an f32 to these, with a local of i64 and two of i32.
abbrev says : Context → List ValType → List Instr → Bool
says c results code =
    accepts results
    (map (shape c (record { params = F32 ∷ []; results = results }) (record { count = 1; kind = I64 } ∷ record { count = 2; kind = I32 } ∷ [])) code)

abbrev number : Instr
number = I32Const (pos 1)

abbrev long : Instr
long = I64Const (pos 1)

abbrev end : Instr
end = Plain 0x0b

-- i32.const, end
a_number_left : says bare [] (number ∷ end ∷ []) ≡ false
unfolding read step plain numeric
a_number_left = refl

-- unreachable, select, end
any_operand : says bare (I64 ∷ []) (Plain 0x00 ∷ Plain 0x1b ∷ end ∷ []) ≡ true
unfolding read step plain numeric
any_operand = refl

-- The labels of a `br_table` may differ in their types where the operands are unknown.
labels_differ : says bare (I32 ∷ []) (Block 0x02 (Value I64) ∷ Plain 0x00 ∷ number ∷ BranchTable (0 ∷ []) 1 ∷ end ∷ Plain 0x1a ∷ number ∷ end ∷ []) ≡ true
unfolding read step plain numeric
labels_differ = refl

labels_differ_known : says bare (I32 ∷ []) (Block 0x02 (Value I64) ∷ long ∷ number ∷ BranchTable (0 ∷ []) 1 ∷ end ∷ Plain 0x1a ∷ number ∷ end ∷ []) ≡ false
unfolding read step plain numeric
labels_differ_known = refl

-- Local 0 is the parameter, local 1 of the first run, local 3 the last of the second.
locals_here : says bare (I32 ∷ []) (Local 0x20 0 ∷ Plain 0x1a ∷ Local 0x20 1 ∷ Local 0x21 1 ∷ Local 0x20 3 ∷ end ∷ []) ≡ true
unfolding read step plain numeric run_type
locals_here = refl

local_lacks : says bare [] (Local 0x20 4 ∷ Plain 0x1a ∷ end ∷ []) ≡ false
unfolding read step plain numeric run_type
local_lacks = refl

-- i32.const, i64.const, call 0, end
call_here : says rich (I64 ∷ []) (number ∷ long ∷ Call 0 ∷ end ∷ []) ≡ true
unfolding read step plain numeric
call_here = refl

function_lacks : says rich (I64 ∷ []) (number ∷ long ∷ Call 1 ∷ end ∷ []) ≡ false
unfolding read step plain numeric
function_lacks = refl

call_indirect_here : says rich (I64 ∷ []) (number ∷ long ∷ number ∷ CallIndirect 0 0 ∷ end ∷ []) ≡ true
unfolding read step plain numeric
call_indirect_here = refl

-- The table is of externref.
table_of_other_type : says rich (I64 ∷ []) (number ∷ long ∷ number ∷ CallIndirect 0 1 ∷ end ∷ []) ≡ false
unfolding read step plain numeric
table_of_other_type = refl

block_of_type : says rich (I64 ∷ []) (number ∷ long ∷ Block 0x02 (Index 0) ∷ Plain 0x1a ∷ Plain 0x1a ∷ long ∷ end ∷ end ∷ []) ≡ true
unfolding read step plain numeric
block_of_type = refl

global_is_set : says rich [] (number ∷ GlobalAt 0x24 1 ∷ end ∷ []) ≡ true
unfolding read step plain numeric
global_is_set = refl

const_global_is_set : says rich [] (number ∷ GlobalAt 0x24 0 ∷ end ∷ []) ≡ false
unfolding read step plain numeric
const_global_is_set = refl

-- i64.load16_s is aligned to 2 bytes at most.
load_here : says rich (I64 ∷ []) (number ∷ Access 0x32 1 0 ∷ end ∷ []) ≡ true
unfolding read step plain numeric access
load_here = refl

load_too_aligned : says rich (I64 ∷ []) (number ∷ Access 0x32 2 0 ∷ end ∷ []) ≡ false
unfolding read step plain numeric access
load_too_aligned = refl

memory_lacks : says bare (I32 ∷ []) (MemorySize ∷ end ∷ []) ≡ false
unfolding read step plain numeric
memory_lacks = refl

select_of_two_types : says bare [] (long ∷ long ∷ number ∷ SelectTyped (I64 ∷ I64 ∷ []) ∷ Plain 0x1a ∷ end ∷ []) ≡ false
unfolding read step plain numeric
select_of_two_types = refl

-- i32.const, f64.convert_i32_u, i64.trunc_sat_f64_u, end
conversions_here : says bare (I64 ∷ []) (number ∷ Plain 0xb8 ∷ Truncate 7 ∷ end ∷ []) ≡ true
unfolding read step plain numeric truncation
conversions_here = refl
