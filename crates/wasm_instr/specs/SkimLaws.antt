-- Skimming beside reading.
use Rattle.std.proofs.Common.{◌≡◌, ℕ, Bool, true, false, eqb, List, Result, Ok, Err, refl, sym, ap}
use Rattle.wasm_grammar.specs.declared.fault.Stop.{Stop}
use Rattle.wasm_grammar.specs.ReaderLaws.{ok_is}
use Rattle.wasm_instr.specs.declared.instr.Instr.{Instr}
use Rattle.wasm_instr.specs.declared.instr.Instr.TheVariants.{Plain, Block, Branch, BranchTable, Call, CallIndirect, SelectTyped, Local, GlobalAt, Access, MemorySize, MemoryGrow, I32Const, I64Const, F32Const, F64Const, Truncate, MemoryCopy, MemoryFill}
use Rattle.wasm_instr.specs.declared.outline.Outline.{Outline}
use Rattle.wasm_instr.specs.Reading.{instr_at}
use Rattle.wasm_instr.specs.Bodies.{Nest, step_of}
use Rattle.wasm_instr.specs.Skimming.{outline_of, outlined, skim_at, outline_step, rest_of}

plain_agrees : (nest : Nest) (op : ℕ) (p q : Bool) → p ≡ eqb op 0x0b → q ≡ eqb op 0x05 → step_of nest (Plain op) ≡ outline_step nest (outline_of (Plain op))
plain_agrees nest op true q p_is q_is = rw (sym p_is) refl
plain_agrees nest op false true p_is q_is = rw (sym p_is, sym q_is) refl
plain_agrees nest op false false p_is q_is = rw (sym p_is, sym q_is) refl

-- an outline tells what an instruction does to the open blocks
pub steps_agree : (nest : Nest) (x : Instr) → step_of nest x ≡ outline_step nest (outline_of x)
steps_agree nest (Plain op) = plain_agrees nest op (eqb op 0x0b) (eqb op 0x05) refl refl
steps_agree nest (Block op kind) = refl
steps_agree nest (Branch op label) = refl
steps_agree nest (BranchTable labels last) = refl
steps_agree nest (Call function) = refl
steps_agree nest (CallIndirect kind table) = refl
steps_agree nest (SelectTyped kinds) = refl
steps_agree nest (Local op local) = refl
steps_agree nest (GlobalAt op global) = refl
steps_agree nest (Access op align offset) = refl
steps_agree nest MemorySize = refl
steps_agree nest MemoryGrow = refl
steps_agree nest (I32Const n) = refl
steps_agree nest (I64Const n) = refl
steps_agree nest (F32Const n) = refl
steps_agree nest (F64Const n) = refl
steps_agree nest (Truncate n) = refl
steps_agree nest MemoryCopy = refl
steps_agree nest MemoryFill = refl

outlined_ok : (read : Result (Instr × List ℕ × List ℕ) Stop) (o : Outline) (mid rest : List ℕ) → outlined read ≡ Ok (o, mid, rest) → (x : Instr) × (read ≡ Ok (x, mid, rest)) × (outline_of x ≡ o)
outlined_ok (Ok x) o mid rest e =
    let is : ◌≡◌ {A = Outline × List ℕ × List ℕ} (outline_of x.0, x.1, x.2) (o, mid, rest) = ok_is e in
    let mid_is : x.1 ≡ mid = ap (λ (p : Outline × List ℕ × List ℕ). p.1) is in
    let rest_is : x.2 ≡ rest = ap (λ (p : Outline × List ℕ × List ℕ). p.2) is in
    (x.0, rw (mid_is, rest_is) refl, ap (λ (p : Outline × List ℕ × List ℕ). p.0) is)
outlined_ok (Err d) o mid rest e = absurd cc

-- what is skimmed is the outline of what is read
pub skim_found : (end : ℕ) (bytes : List ℕ) (o : Outline) (mid rest : List ℕ) → skim_at end bytes ≡ Ok (o, mid, rest) → (x : Instr) × (instr_at end bytes ≡ Ok (x, mid, rest)) × (outline_of x ≡ o)
unfolding skim_at
skim_found end bytes o mid rest e = outlined_ok (instr_at end bytes) o mid rest e

outlined_err : (read : Result (Instr × List ℕ × List ℕ) Stop) (d : Stop) → outlined read ≡ Err d → read ≡ Err d
outlined_err (Ok x) d e = absurd cc
outlined_err (Err f) d e = cc

-- and at a fault there the fault is the same
pub skim_fault : (end : ℕ) (bytes : List ℕ) (d : Stop) → skim_at end bytes ≡ Err d → instr_at end bytes ≡ Err d
unfolding skim_at
skim_fault end bytes d e = outlined_err (instr_at end bytes) d e

-- what was gone past is there to be read
pub rest_found : {A : Type 0} (read : Result (A × List ℕ) Stop) (rest : List ℕ) → rest_of read ≡ Ok rest → (x : A) × (read ≡ Ok (x, rest))
rest_found {A} (Ok x) rest e =
    let is : x.1 ≡ rest = ok_is e in
    (x.0, ap (λ (r : List ℕ). let read : Result (A × List ℕ) Stop = Ok (x.0, r) in read) is)
rest_found (Err d) rest e = absurd cc

pub rest_fault : {A : Type 0} (read : Result (A × List ℕ) Stop) (d : Stop) → rest_of read ≡ Err d → read ≡ Err d
rest_fault (Ok x) d e = absurd cc
rest_fault (Err f) d e = cc
