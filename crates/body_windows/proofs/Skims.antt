-- What skimming gives of instructions that are quick to tell.
use Rattle.std.proofs.Common.{◌≡◌, ◌⊎◌, ⊎_elim, ℕ, zero, suc, ◌+◌, ◌-◌, ◌<◌, ◌≤◌, ◌∙◌, true, false, List, [], ◌∷◌, ◌++◌, length, take, drop, get_or, refl, sym, ap, length-drop, arith, Ok}
use Rattle.std.specs.Prelude.{ℤ, ◌==◌, nat_le, slice_index}
use Rattle.std.proofs.lemmas.Bool.{le-leb}
use Rattle.std.proofs.lemmas.List.{drop_more, drop-drop, take-append-drop}
use Rattle.wasm_instr.specs.leb_codec.Spelling.{magnitude, signed_value}
use Rattle.wasm_instr.specs.wasm_types.declared.value.ValType.TheVariants.{I32, I64, F32, F64}
use Rattle.wasm_instr.specs.wasm_grammar.Reading.{u32_at, s32_at, s64_at}
use Rattle.wasm_instr.specs.wasm_grammar.ReaderLaws.{u32_reader, s32_reader, s64_reader}
use Rattle.wasm_instr.specs.declared.class.Class.{Class}
use Rattle.wasm_instr.specs.declared.class.Class.TheVariants as classes
use Rattle.wasm_instr.specs.declared.instr.BlockKind.{BlockKind}
use Rattle.wasm_instr.specs.declared.instr.BlockKind.TheVariants as blocks
use Rattle.wasm_instr.specs.declared.instr.Instr.TheVariants as instrs
use Rattle.wasm_instr.specs.declared.outline.Outline.{Outline}
use Rattle.wasm_instr.specs.declared.outline.Outline.TheVariants as outlines
use Rattle.wasm_instr.specs.Classes.{class_of}
use Rattle.wasm_instr.specs.Reading.{f32_at, f64_at, kind_of, block_kind_at, instr_at, immediates_at}
use Rattle.wasm_instr.specs.Skimming.{is_index, outline_of, outlined, skim_at}
use Rattle.body_windows.specs.declared.immediate.ImmediateKind.TheVariants as kinds
use Rattle.body_windows.specs.Merging.{outlined_immediates}
use Rattle.body_windows.specs.Quick.{IsNumber, IsFree, EndsIn}

-- ---- numbers

-- a number that stands there is read
u32_here : (end : ℕ) (bytes : List ℕ) (at len : ℕ) → IsNumber bytes at len → (n : ℕ) × (u32_at end (drop at bytes) ≡ Ok (n, drop (at + len) bytes))
u32_here end bytes at len number =
    let text : List ℕ = take len (drop at bytes) in
    let rest : List ℕ = drop len (drop at bytes) in
    let read : u32_at end (text ++ rest) ≡ Ok (magnitude text, rest) = u32_reader.again end (magnitude text) text rest (record { spelled = number.unsigned; value_is = refl }) in
    (magnitude text, ap (u32_at end) (sym (take-append-drop len (drop at bytes))) ∙ read ∙ ap (λ (after : List ℕ). Ok (magnitude text, after)) (drop-drop len at bytes))

s32_here : (end : ℕ) (bytes : List ℕ) (at len : ℕ) → IsNumber bytes at len → (n : ℤ) × (s32_at end (drop at bytes) ≡ Ok (n, drop (at + len) bytes))
s32_here end bytes at len number =
    let text : List ℕ = take len (drop at bytes) in
    let rest : List ℕ = drop len (drop at bytes) in
    let read : s32_at end (text ++ rest) ≡ Ok (signed_value text, rest) = s32_reader.again end (signed_value text) text rest (record { spelled = number.signed; value_is = refl }) in
    (signed_value text, ap (s32_at end) (sym (take-append-drop len (drop at bytes))) ∙ read ∙ ap (λ (after : List ℕ). Ok (signed_value text, after)) (drop-drop len at bytes))

s64_here : (end : ℕ) (bytes : List ℕ) (at len : ℕ) → IsNumber bytes at len → (n : ℤ) × (s64_at end (drop at bytes) ≡ Ok (n, drop (at + len) bytes))
s64_here end bytes at len number =
    let text : List ℕ = take len (drop at bytes) in
    let rest : List ℕ = drop len (drop at bytes) in
    let read : s64_at end (text ++ rest) ≡ Ok (signed_value text, rest) = s64_reader.again end (signed_value text) text rest (record { spelled = number.long; value_is = refl }) in
    (signed_value text, ap (s64_at end) (sym (take-append-drop len (drop at bytes))) ∙ read ∙ ap (λ (after : List ℕ). Ok (signed_value text, after)) (drop-drop len at bytes))

-- ---- instructions

-- an opcode of this class
opcode_at : (end : ℕ) (bytes : List ℕ) (at op : ℕ) (k : Class) → at < length bytes → op ≡ slice_index bytes at → class_of op ≡ k → skim_at end (drop at bytes) ≡ outlined (immediates_at k op end (drop (at + 1) bytes))
unfolding skim_at instr_at
opcode_at end bytes at op k lt is class = rw (drop_more bytes at 0 lt, sym is, class) refl

pub plain_free : (bytes : List ℕ) (at op : ℕ) (outline : Outline) → at < length bytes → op ≡ slice_index bytes at → class_of op ≡ classes.Plain → outline_of (instrs.Plain op) ≡ outline → ((at mid end : ℕ) → outlined_immediates outline at mid end ≡ [])
    → IsFree bytes at outline (at + 1)
plain_free bytes at op outline lt is class turns free =
    record { onward = omega arith; within = omega arith; free = free; skims = λ end. opcode_at end bytes at op classes.Plain lt is class ∙ (rw turns refl) }

pub local_free : (bytes : List ℕ) (at op len : ℕ) → 0 < len → op ≡ slice_index bytes at → class_of op ≡ classes.Local → IsNumber bytes (at + 1) (len - 1) → IsFree bytes at outlines.Other (at + len)
local_free bytes at op len some is class number =
    let to : (at + 1) + (len - 1) ≡ at + len = omega arith in
    record {
      onward = omega arith;
      within = omega (arith, number.within);
      free = λ at mid end. refl;
      skims = λ end. let read = u32_here end bytes (at + 1) (len - 1) number in opcode_at end bytes at op classes.Local (omega (arith, number.within)) is class ∙ (rw (read.1, to) refl);
    }

pub branch_free : (bytes : List ℕ) (at op len : ℕ) → 0 < len → op ≡ slice_index bytes at → class_of op ≡ classes.Branch → IsNumber bytes (at + 1) (len - 1) → IsFree bytes at outlines.Other (at + len)
branch_free bytes at op len some is class number =
    let to : (at + 1) + (len - 1) ≡ at + len = omega arith in
    record {
      onward = omega arith;
      within = omega (arith, number.within);
      free = λ at mid end. refl;
      skims = λ end. let read = u32_here end bytes (at + 1) (len - 1) number in opcode_at end bytes at op classes.Branch (omega (arith, number.within)) is class ∙ (rw (read.1, to) refl);
    }

pub long_free : (bytes : List ℕ) (at op len : ℕ) → 0 < len → op ≡ slice_index bytes at → class_of op ≡ classes.I64Const → IsNumber bytes (at + 1) (len - 1) → IsFree bytes at outlines.Other (at + len)
long_free bytes at op len some is class number =
    let to : (at + 1) + (len - 1) ≡ at + len = omega arith in
    record {
      onward = omega arith;
      within = omega (arith, number.within);
      free = λ at mid end. refl;
      skims = λ end. let read = s64_here end bytes (at + 1) (len - 1) number in opcode_at end bytes at op classes.I64Const (omega (arith, number.within)) is class ∙ (rw (read.1, to) refl);
    }

-- the bytes of a float
pub float_free : (bytes : List ℕ) (at op : ℕ) → at + 5 ≤ length bytes → op ≡ slice_index bytes at → class_of op ≡ classes.F32Const → IsFree bytes at outlines.Other (at + 5)
unfolding f32_at
float_free bytes at op le is class =
    let long : nat_le 4 (length (drop (at + 1) bytes)) ≡ true = le-leb 4 (length (drop (at + 1) bytes)) (omega (arith, length-drop (at + 1) bytes)) in
    let to : (at + 1) + 4 ≡ at + 5 = omega arith in
    record {
      onward = omega arith;
      within = le;
      free = λ at mid end. refl;
      skims = λ end. opcode_at end bytes at op classes.F32Const (omega arith) is class ∙ (rw (long, drop-drop 4 (at + 1) bytes, to) refl);
    }

pub long_float_free : (bytes : List ℕ) (at op : ℕ) → at + 9 ≤ length bytes → op ≡ slice_index bytes at → class_of op ≡ classes.F64Const → IsFree bytes at outlines.Other (at + 9)
unfolding f64_at
long_float_free bytes at op le is class =
    let long : nat_le 8 (length (drop (at + 1) bytes)) ≡ true = le-leb 8 (length (drop (at + 1) bytes)) (omega (arith, length-drop (at + 1) bytes)) in
    let to : (at + 1) + 8 ≡ at + 9 = omega arith in
    record {
      onward = omega arith;
      within = le;
      free = λ at mid end. refl;
      skims = λ end. opcode_at end bytes at op classes.F64Const (omega arith) is class ∙ (rw (long, drop-drop 8 (at + 1) bytes, to) refl);
    }

-- a block whose type is one byte
kind_here : (end : ℕ) (bytes : List ℕ) (at kind : ℕ) → at < length bytes → kind ≡ slice_index bytes at → (kind ≡ 0x40) ⊎ ((0x7c ≤ kind) × (kind ≤ 0x7f))
    → (k : BlockKind) × (block_kind_at end (drop at bytes) ≡ Ok (k, drop (at + 1) bytes)) × (is_index k ≡ false)
unfolding block_kind_at
kind_here end bytes at kind lt is short = ⊎_elim (λ none. by_kind 0x40 none (blocks.Empty, refl, refl)) value short
  where
    by_kind : (n : ℕ) → kind ≡ n → (k : BlockKind) × (kind_of n end (n ∷ drop (at + 1) bytes) (drop (at + 1) bytes) ≡ Ok (k, drop (at + 1) bytes)) × (is_index k ≡ false)
        → (k : BlockKind) × (block_kind_at end (drop at bytes) ≡ Ok (k, drop (at + 1) bytes)) × (is_index k ≡ false)
    by_kind n same found = let here : get_or bytes at 0 ≡ n = sym is ∙ same in (found.0, rw (drop_more bytes at 0 lt, here) found.1, found.2)

    value : (0x7c ≤ kind) × (kind ≤ 0x7f) → (k : BlockKind) × (block_kind_at end (drop at bytes) ≡ Ok (k, drop (at + 1) bytes)) × (is_index k ≡ false)
    value range = by_offset (kind - 0x7c) refl
      where
        by_offset : (n : ℕ) → kind - 0x7c ≡ n → (k : BlockKind) × (block_kind_at end (drop at bytes) ≡ Ok (k, drop (at + 1) bytes)) × (is_index k ≡ false)
        by_offset zero e = by_kind 0x7c (omega (arith, range.0, range.1)) (blocks.Value F64, refl, refl)
        by_offset (suc zero) e = by_kind 0x7d (omega (arith, range.0, range.1)) (blocks.Value F32, refl, refl)
        by_offset (suc (suc zero)) e = by_kind 0x7e (omega (arith, range.0, range.1)) (blocks.Value I64, refl, refl)
        by_offset (suc (suc (suc zero))) e = by_kind 0x7f (omega (arith, range.0, range.1)) (blocks.Value I32, refl, refl)
        by_offset (suc (suc (suc (suc n)))) e = absurd (omega (arith, range.1))

pub block_free : (bytes : List ℕ) (at op : ℕ) → at + 1 < length bytes → op ≡ slice_index bytes at → class_of op ≡ classes.Block → (slice_index bytes (at + 1) ≡ 0x40) ⊎ ((0x7c ≤ slice_index bytes (at + 1)) × (slice_index bytes (at + 1) ≤ 0x7f))
    → IsFree bytes at (outlines.Block (op == 0x04) false) (at + 2)
block_free bytes at op lt is class short =
    let to : (at + 1) + 1 ≡ at + 2 = omega arith in
    record {
      onward = omega arith;
      within = omega arith;
      free = λ at mid end. refl;
      skims = λ end.
          let read = kind_here end bytes (at + 1) (slice_index bytes (at + 1)) lt refl short in
          opcode_at end bytes at op classes.Block (omega arith) is class ∙ (rw (read.1, read.2, to) refl);
    }

pub constant_ends : (bytes : List ℕ) (at op : ℕ) → at < length bytes → op ≡ slice_index bytes at → class_of op ≡ classes.I32Const → EndsIn bytes at (at + 1) kinds.Constant
constant_ends bytes at op lt is class len end number =
    let read = s32_here end bytes (at + 1) len number in
    opcode_at end bytes at op classes.I32Const lt is class ∙ (rw read.1 refl)

pub access_ends : (bytes : List ℕ) (at op : ℕ) → at < length bytes → op ≡ slice_index bytes at → class_of op ≡ classes.Access → IsNumber bytes (at + 1) 1 → EndsIn bytes at (at + 2) kinds.MemoryOffset
access_ends bytes at op lt is class align len end number =
    let first = u32_here end bytes (at + 1) 1 align in
    let second = u32_here end bytes (at + 2) len number in
    let mid : (at + 1) + 1 ≡ at + 2 = omega arith in
    opcode_at end bytes at op classes.Access lt is class ∙ (rw (first.1, mid, second.1) refl)

pub call_ends : (bytes : List ℕ) (at op : ℕ) → at < length bytes → op ≡ slice_index bytes at → class_of op ≡ classes.Call → EndsIn bytes at (at + 1) kinds.FunctionIndex
call_ends bytes at op lt is class len end number =
    let read = u32_here end bytes (at + 1) len number in
    opcode_at end bytes at op classes.Call lt is class ∙ (rw read.1 refl)

pub global_ends : (bytes : List ℕ) (at op : ℕ) → at < length bytes → op ≡ slice_index bytes at → class_of op ≡ classes.GlobalAt → EndsIn bytes at (at + 1) kinds.GlobalIndex
global_ends bytes at op lt is class len end number =
    let read = u32_here end bytes (at + 1) len number in
    opcode_at end bytes at op classes.GlobalAt lt is class ∙ (rw read.1 refl)
