-- The pass over the immediates of instructions, one after another.
use Rattle.std.proofs.Common.{◌≡◌, ℕ, ◌+◌, ◌<◌, ◌≤◌, ◌^◌, ◌∙◌, Bool, true, false, cond, eqb, List, [], ◌∷◌, ◌++◌, refl, ap, subst, arith, Option, Some, None}
use Rattle.std.specs.Prelude.{nat_le}
use Rattle.wasm_instr.specs.declared.body.Placed.{Placed}
use Rattle.wasm_instr.specs.declared.instr.BlockKind.TheVariants as blocks
use Rattle.wasm_instr.specs.declared.instr.Instr.{Instr}
use Rattle.wasm_instr.specs.declared.instr.Instr.TheVariants.{Plain, Block, Branch, BranchTable, Call, CallIndirect, SelectTyped, Local, GlobalAt, Access, MemorySize, MemoryGrow, I32Const, I64Const, F32Const, F64Const, Truncate, MemoryCopy, MemoryFill}
use Rattle.wasm_instr.specs.declared.outline.Outline.TheVariants as outlines
use Rattle.wasm_instr.specs.Skimming.{outline_of}
use Rattle.reloc_section.specs.declared.entry.Reloc.{Reloc}
use Rattle.body_windows.specs.declared.immediate.Immediate.{Immediate}
use Rattle.body_windows.specs.Immediates.{immediates_in, immediates, AreInOrder, fills, operand_of}
use Rattle.body_windows.specs.Merging.{State, left_bare, met, offered_to, offered, offered_all, outlined_immediates, Fit}

-- an outline tells the immediates
pub outlined_is : (x : Instr) (at mid end : ℕ) → immediates_in x at mid end ≡ outlined_immediates (outline_of x) at mid end
outlined_is (Plain op) at mid end = by_tests (eqb op 0x0b) (eqb op 0x05)
  where
    by_tests : (p q : Bool) → [] ≡ outlined_immediates (cond p outlines.End (cond q outlines.Else outlines.Other)) at mid end
    by_tests true q = refl
    by_tests false true = refl
    by_tests false false = refl
outlined_is (Block op blocks.Empty) at mid end = refl
outlined_is (Block op (blocks.Value t)) at mid end = refl
outlined_is (Block op (blocks.Index n)) at mid end = refl
outlined_is (Branch op label) at mid end = refl
outlined_is (BranchTable labels last) at mid end = refl
outlined_is (Call function) at mid end = refl
outlined_is (CallIndirect kind table) at mid end = refl
outlined_is (SelectTyped kinds) at mid end = refl
outlined_is (Local op local) at mid end = refl
outlined_is (GlobalAt op global) at mid end = refl
outlined_is (Access op align offset) at mid end = refl
outlined_is MemorySize at mid end = refl
outlined_is MemoryGrow at mid end = refl
outlined_is (I32Const n) at mid end = refl
outlined_is (I64Const n) at mid end = refl
outlined_is (F32Const n) at mid end = refl
outlined_is (F64Const n) at mid end = refl
outlined_is (Truncate n) at mid end = refl
outlined_is MemoryCopy at mid end = refl
outlined_is MemoryFill at mid end = refl

-- some immediates, and then others
pub offered_append : (s : State) (xs ys : List Immediate) → offered_all s (xs ++ ys) ≡ offered_all (offered_all s xs) ys
offered_append s [] ys = refl
offered_append s (x ∷ xs) ys = offered_append (offered s x) xs ys

-- the body stays where it is
one_base : (s : State) (i : Immediate) (off : Option ℕ) (left : List Reloc) → (offered_to s i off left).base ≡ s.base
one_base s i (Some place) left = refl
one_base s i None [] = refl
one_base s i None (r ∷ rs) = by_place (nat_le r.offset (s.base + i.place))
  where
    by_fill : (q : Bool) → (cond q (record s { left = rs; operands = s.operands ++ operand_of i r ∷ [] }) (record s { off = Some r.offset })).base ≡ s.base
    by_fill true = refl
    by_fill false = refl

    by_place : (q : Bool) → (cond q (met s i r rs) (left_bare s i)).base ≡ s.base
    by_place true = by_fill (fills s.base r i)
    by_place false = refl

pub same_base : (s : State) (is : List Immediate) → (offered_all s is).base ≡ s.base
same_base s [] = refl
same_base s (i ∷ is) = same_base (offered s i) is ∙ one_base s i s.off s.left

-- what fits has parts that fit
pub fit_front : (base : ℕ) (xs ys : List Immediate) → Fit base (xs ++ ys) → Fit base xs
fit_front base [] ys fit = tt
fit_front base (x ∷ xs) ys fit = (fit.0, fit_front base xs ys fit.1)

pub fit_back : (base : ℕ) (xs ys : List Immediate) → Fit base (xs ++ ys) → Fit base ys
fit_back base [] ys fit = fit
fit_back base (x ∷ xs) ys fit = fit_back base xs ys fit.1

pub order_ends : (from end : ℕ) (is : List Immediate) → AreInOrder from end is → from ≤ end
order_ends from end [] order = order
order_ends from end (i ∷ is) order = omega (arith, order.0, order_ends (i.place + i.len) end is order.2)

-- immediates in order fit where their end does
pub order_fits : (base from end : ℕ) (is : List Immediate) → AreInOrder from end is → base + end < 2 ^ 32 → Fit base is
order_fits base from end [] order room = tt
order_fits base from end (i ∷ is) order room =
    (omega (arith, order.1, order_ends (i.place + i.len) end is order.2), order_fits base (i.place + i.len) end is order.2 room)

-- one instruction
pub code_step : (s : State) (p : Placed) (code : List Placed) → offered_all s (immediates (p ∷ code)) ≡ offered_all (offered_all s (outlined_immediates (outline_of p.instr) p.at p.mid p.end)) (immediates code)
code_step s p code =
    offered_append s (immediates_in p.instr p.at p.mid p.end) (immediates code)
    ∙ ap (λ (is : List Immediate). offered_all (offered_all s is) (immediates code)) (outlined_is p.instr p.at p.mid p.end)

pub code_fit : (base : ℕ) (p : Placed) (code : List Placed) → Fit base (immediates (p ∷ code)) → Fit base (outlined_immediates (outline_of p.instr) p.at p.mid p.end)
code_fit base p code fit =
    subst (Fit base) (outlined_is p.instr p.at p.mid p.end) (fit_front base (immediates_in p.instr p.at p.mid p.end) (immediates code) fit)

pub code_fit_more : (base : ℕ) (p : Placed) (code : List Placed) → Fit base (immediates (p ∷ code)) → Fit base (immediates code)
code_fit_more base p code fit = fit_back base (immediates_in p.instr p.at p.mid p.end) (immediates code) fit
