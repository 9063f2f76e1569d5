-- What is broken stands at the end at most.
use Rattle.std.proofs.Common.{ℕ, zero, suc, ◌+◌, ◌-◌, ◌≤◌, ◌^◌, List, [], ◌∷◌, false, length, take, Ok, Err, eqb, arith, ℤ, pos, negsuc, Option, Some, None}
use Rattle.std.specs.Prelude.{drop, nat_le, nat_lt}
use Rattle.std.specs.Int.{from_le_bytes, w32, w64}
use Rattle.wasm_grammar.specs.wl_base.declared.item.Item.TheVariants as items
use Rattle.wasm_grammar.specs.declared.fault.Stop.TheVariants.{Broken, Foreign}
use Rattle.wasm_grammar.specs.Bounds.{Bounded, bind_bounded, cond_bounded, byte_bounded, tag_bounded, u32_bounded, s32_bounded, s33_bounded, s64_bounded, vector_bounded}
use Rattle.wasm_grammar.specs.Reading.{byte_at, tag_at, u32_at, s32_at, s33_at, s64_at, vector_at, ended}
use Rattle.wasm_types.specs.Types.{val_type_of, val_type_at}
use Rattle.wasm_types.specs.TypeBounds.{val_type_of_bounded, val_type_bounded}
use Rattle.wasm_instr.specs.Classes.{between, class_of}
use Rattle.wasm_instr.specs.declared.class.Class.{Class}
use Rattle.wasm_instr.specs.declared.class.Class.TheVariants as classes
use Rattle.wasm_instr.specs.declared.instr.BlockKind.TheVariants as blocks
use Rattle.wasm_instr.specs.declared.instr.Instr.{Instr}
use Rattle.wasm_instr.specs.declared.instr.Instr.TheVariants.{Truncate, MemoryCopy, MemoryFill, MemorySize, MemoryGrow}
use Rattle.wasm_instr.specs.Reading.{index_of, index_kind_at, value_kind, kind_of, block_kind_at, f32_at, f64_at, zero_at, memory_copy_at, numbered, immediates_at, instr_at}
use Rattle.wasm_instr.specs.Bodies.{counted, run_at, runs_at, locals_at, Nest, step_of, stepped, code_at, body_at}

index_of_bounded : (end place : ℕ) (n : ℤ) (rest : List ℕ) → place ≤ end → Bounded end (index_of place n rest)
index_of_bounded end place (pos n) rest le = tt
index_of_bounded end place (negsuc n) rest le = le

index_kind_bounded : (end : ℕ) (bytes : List ℕ) → Bounded end (index_kind_at end bytes)
unfolding index_kind_at
index_kind_bounded end bytes = bind_bounded end (s33_at end bytes) _ (s33_bounded end bytes) (λ n. index_of_bounded end (end - length bytes) n.0 n.1 (omega arith))

kind_bounded : (byte end : ℕ) (bytes rest : List ℕ) → Bounded end (kind_of byte end bytes rest)
kind_bounded byte end bytes rest =
    cond_bounded end (eqb byte 0x40) (Ok (blocks.Empty, rest)) _ tt (
    cond_bounded end (between 0x41 0x7f byte) (value_kind (end - length bytes) byte rest) (index_kind_at end bytes)
    (bind_bounded end (val_type_of (end - length bytes) byte) _ (val_type_of_bounded end (end - length bytes) byte (omega arith)) (λ t. tt))
    (index_kind_bounded end bytes))

block_kind_bounded : (end : ℕ) (bytes : List ℕ) → Bounded end (block_kind_at end bytes)
unfolding block_kind_at
block_kind_bounded end bytes = bind_bounded end (byte_at end bytes) _ (byte_bounded end bytes) (λ byte. kind_bounded byte.0 end bytes byte.1)

f32_bounded : (end : ℕ) (bytes : List ℕ) → Bounded end (f32_at end bytes)
unfolding f32_at
f32_bounded end bytes = cond_bounded end (nat_le 4 (length bytes)) (Ok (from_le_bytes w32 (take 4 bytes), drop 4 bytes)) (Err (Broken end)) tt (omega arith)

f64_bounded : (end : ℕ) (bytes : List ℕ) → Bounded end (f64_at end bytes)
unfolding f64_at
f64_bounded end bytes = cond_bounded end (nat_le 8 (length bytes)) (Ok (from_le_bytes w64 (take 8 bytes), drop 8 bytes)) (Err (Broken end)) tt (omega arith)

zero_bounded : (x : Instr) (end : ℕ) (rest : List ℕ) → Bounded end (zero_at x end rest)
zero_bounded x end rest = bind_bounded end (tag_at 0 end rest) _ (tag_bounded 0 end rest) (λ after. tt)

numbered_bounded : (n end : ℕ) (rest : List ℕ) → Bounded end (numbered n end rest)
numbered_bounded n end rest =
    cond_bounded end (nat_le n 7) (Ok (Truncate n, rest, rest)) _ tt (
    cond_bounded end (eqb n 10) (memory_copy_at end rest) _ (bind_bounded end (tag_at 0 end rest) _ (tag_bounded 0 end rest) (λ mid. zero_bounded MemoryCopy end mid)) (
    cond_bounded end (eqb n 11) (zero_at MemoryFill end rest) (Err (Foreign (items.Opcode 0xfc n))) (zero_bounded MemoryFill end rest) tt))

immediates_bounded : (c : Class) (op end : ℕ) (rest : List ℕ) → Bounded end (immediates_at c op end rest)
immediates_bounded classes.Plain op end rest = tt
immediates_bounded classes.Block op end rest = bind_bounded end (block_kind_at end rest) _ (block_kind_bounded end rest) (λ x. tt)
immediates_bounded classes.Branch op end rest = bind_bounded end (u32_at end rest) _ (u32_bounded end rest) (λ x. tt)
immediates_bounded classes.BranchTable op end rest = bind_bounded end (vector_at u32_at end rest) _ (vector_bounded u32_at u32_bounded end rest) (λ x. bind_bounded end (u32_at end x.1) _ (u32_bounded end x.1) (λ y. tt))
immediates_bounded classes.Call op end rest = bind_bounded end (u32_at end rest) _ (u32_bounded end rest) (λ x. tt)
immediates_bounded classes.CallIndirect op end rest = bind_bounded end (u32_at end rest) _ (u32_bounded end rest) (λ x. bind_bounded end (u32_at end x.1) _ (u32_bounded end x.1) (λ y. tt))
immediates_bounded classes.SelectTyped op end rest = bind_bounded end (vector_at val_type_at end rest) _ (vector_bounded val_type_at val_type_bounded end rest) (λ x. tt)
immediates_bounded classes.Local op end rest = bind_bounded end (u32_at end rest) _ (u32_bounded end rest) (λ x. tt)
immediates_bounded classes.GlobalAt op end rest = bind_bounded end (u32_at end rest) _ (u32_bounded end rest) (λ x. tt)
immediates_bounded classes.Access op end rest = bind_bounded end (u32_at end rest) _ (u32_bounded end rest) (λ x. bind_bounded end (u32_at end x.1) _ (u32_bounded end x.1) (λ y. tt))
immediates_bounded classes.MemorySize op end rest = zero_bounded MemorySize end rest
immediates_bounded classes.MemoryGrow op end rest = zero_bounded MemoryGrow end rest
immediates_bounded classes.I32Const op end rest = bind_bounded end (s32_at end rest) _ (s32_bounded end rest) (λ x. tt)
immediates_bounded classes.I64Const op end rest = bind_bounded end (s64_at end rest) _ (s64_bounded end rest) (λ x. tt)
immediates_bounded classes.F32Const op end rest = bind_bounded end (f32_at end rest) _ (f32_bounded end rest) (λ x. tt)
immediates_bounded classes.F64Const op end rest = bind_bounded end (f64_at end rest) _ (f64_bounded end rest) (λ x. tt)
immediates_bounded classes.Numbered op end rest = bind_bounded end (u32_at end rest) _ (u32_bounded end rest) (λ n. numbered_bounded n.0 end n.1)
immediates_bounded classes.Foreign op end rest = tt

pub instr_bounded : (end : ℕ) (bytes : List ℕ) → Bounded end (instr_at end bytes)
unfolding instr_at
instr_bounded end bytes = bind_bounded end (byte_at end bytes) _ (byte_bounded end bytes) (λ op. immediates_bounded (class_of op.0) op.0 end op.1)

counted_bounded : (end place before count : ℕ) → place ≤ end → Bounded end (counted place before count)
counted_bounded end place before count le = cond_bounded end (nat_lt (before + count) (2 ^ 32)) (Ok count) (Err (Broken place)) tt le

run_bounded : (before end : ℕ) (bytes : List ℕ) → Bounded end (run_at before end bytes)
unfolding run_at
run_bounded before end bytes =
    bind_bounded end (u32_at end bytes) _ (u32_bounded end bytes) (λ count.
    bind_bounded end (counted (end - length bytes) before count.0) _ (counted_bounded end (end - length bytes) before count.0 (omega arith)) (λ checked.
    bind_bounded end (val_type_at end count.1) _ (val_type_bounded end count.1) (λ kind. tt)))

runs_bounded : (n before end : ℕ) (bytes : List ℕ) → Bounded end (runs_at n before end bytes)
unfolding runs_at
runs_bounded zero before end bytes = tt
runs_bounded (suc n) before end bytes =
    bind_bounded end (run_at before end bytes) _ (run_bounded before end bytes) (λ run.
    bind_bounded end (runs_at n (before + run.0.count) end run.1) _ (runs_bounded n (before + run.0.count) end run.1) (λ others. tt))

pub locals_bounded : (end : ℕ) (bytes : List ℕ) → Bounded end (locals_at end bytes)
unfolding locals_at
locals_bounded end bytes = bind_bounded end (u32_at end bytes) _ (u32_bounded end bytes) (λ count. runs_bounded count.0 0 end count.1)

ended_bounded : {A : Type 0} (end : ℕ) (x : A) (bytes : List ℕ) → Bounded end (ended end x bytes)
ended_bounded end x [] = tt
ended_bounded end x (b ∷ bytes) = omega arith

pub stepped_bounded : (end place : ℕ) (o : Option Nest) → place ≤ end → Bounded end (stepped place o)
stepped_bounded end place (Some nest) le = tt
stepped_bounded end place None le = le

pub code_bounded : (n end : ℕ) (nest : Nest) (bytes : List ℕ) → Bounded end (code_at n end nest bytes)
unfolding code_at
code_bounded n end [] bytes = ended_bounded end [] bytes
code_bounded zero end (o ∷ os) bytes = omega arith
code_bounded (suc n) end (o ∷ os) bytes =
    bind_bounded end (instr_at end bytes) _ (instr_bounded end bytes) (λ x.
    bind_bounded end (stepped (end - length bytes) (step_of (o ∷ os) x.0)) _ (stepped_bounded end (end - length bytes) (step_of (o ∷ os) x.0) (omega arith)) (λ next.
    bind_bounded end (code_at n end next x.2) _ (code_bounded n end next x.2) (λ code. tt)))

pub body_bounded : (bytes : List ℕ) → Bounded (length bytes) (body_at bytes)
unfolding body_at
body_bounded bytes =
    bind_bounded (length bytes) (locals_at (length bytes) bytes) _ (locals_bounded (length bytes) bytes) (λ locals.
    bind_bounded (length bytes) (code_at (length locals.1) (length bytes) (false ∷ []) locals.1) _ (code_bounded (length locals.1) (length bytes) (false ∷ []) locals.1) (λ code. tt))
