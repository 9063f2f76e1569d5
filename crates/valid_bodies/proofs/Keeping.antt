-- Types that are put behind others, or cut off behind them, change nothing of the blocks whose types stand before.
use Rattle.std.proofs.Common.{◌≡◌, ℕ, zero, suc, ◌-◌, ◌≤◌, List, [], ◌∷◌, ◌++◌, length, take, drop, map, Option, Some, None, refl, sym, ap, ◌∙◌, subst, arith, length-drop}
use Rattle.std.specs.Prelude.{slice_get, option_map}
use Rattle.std.proofs.lemmas.List.{take-append-le, drop-append-le, take-append-drop, length-take-le}
use Rattle.std.proofs.lemmas.Option.{slice_get-map}
use Rattle.wasm_types.specs.declared.value.ValType.{ValType}
use Rattle.wasm_types.specs.declared.function.FuncType.{FuncType}
use Rattle.valid_rules.specs.declared.types.Operand.{Operand}
use Rattle.valid_rules.specs.Reading.{label_of, labels}
use Rattle.valid_bodies.specs.declared.blocks.Block.{Block}
use Rattle.valid_bodies.specs.declared.blocks.Outer.{Outer}
use Rattle.valid_bodies.specs.Layer.{above, under}
use Rattle.valid_bodies.specs.Blocks.{kind_in, frame_in, label_in, blocks_in, labels_in, outer, Stands, Around, Open}

-- ---- types

part_kept : (from to : ℕ) (xs ys : List ValType) → from ≤ to → to ≤ length xs → take (to - from) (drop from (xs ++ ys)) ≡ take (to - from) (drop from xs)
part_kept from to xs ys low high =
    let n = length-drop from xs in
    ap (take (to - from)) (drop-append-le from xs ys (omega (arith, low, high))) ∙ take-append-le (to - from) (drop from xs) ys (omega (arith, n, low, high))

kind_kept : (b : Block) (xs ys : List ValType) → Stands b (length xs) → kind_in (xs ++ ys) b ≡ kind_in xs b
kind_kept b xs ys s =
    let p = part_kept b.from b.mid xs ys s.0 (omega (arith, s.1, s.2)) in
    let r = part_kept b.mid b.to xs ys s.1 s.2 in
    cc (p, r)

pub frame_kept : (b : Block) (vs : List Operand) (xs ys : List ValType) → Stands b (length xs) → frame_in (xs ++ ys) b vs ≡ frame_in xs b vs
frame_kept b vs xs ys s = ap (λ (k : FuncType). record { opener = b.opener; kind = k; operands = vs; unreachable = b.unreachable }) (kind_kept b xs ys s)

-- ---- the blocks around stand in more

pub wider : (os : List Outer) (n more m deep : ℕ) → n ≤ more → m ≤ deep → Around os n m → Around os more deep
wider [] n more m deep le low a = tt
wider (o ∷ os) n more m deep le low a = ((a.0.0, a.0.1, omega (arith, a.0.2, le)), omega (arith, a.1, low), a.2)

pub still : (inner : Option Block) (os : List Outer) (n : ℕ) (old new : List Operand) → new ≡ old → Open inner os n (length old) → Open inner os n (length new)
still inner os n old new e o = subst (λ (vs : List Operand). Open inner os n (length vs)) (sym e) o

pub outer_kept : (os : List Outer) (xs ys : List ValType) (vs : List Operand) (m : ℕ) → Around os (length xs) m → outer (xs ++ ys) os vs ≡ outer xs os vs
outer_kept [] xs ys vs m a = refl
outer_kept (o ∷ os) xs ys vs m a =
    let low = a.0 in
    ap (λ f. f ∷ outer (xs ++ ys) os (under o.height vs)) (frame_kept o.block (above o.height vs) xs ys low)
    ∙ ap (λ fs. frame_in xs o.block (above o.height vs) ∷ fs)
    (outer_kept os xs ys (under o.height vs) o.height (wider os o.block.from (length xs) o.height o.height (omega (arith, low.0, low.1, low.2)) (omega arith) a.2))

-- all types from here on are cut off
pub outer_cut : (os : List Outer) (ts : List ValType) (vs : List Operand) (at m : ℕ) → at ≤ length ts → Around os at m → outer (take at ts) os vs ≡ outer ts os vs
outer_cut os ts vs at m le a =
    let n = length-take-le at ts le in
    sym (outer_kept os (take at ts) (drop at ts) vs m (subst (λ k. Around os k m) (sym n) a)) ∙ ap (λ xs. outer xs os vs) (take-append-drop at ts)

pub frame_cut : (b : Block) (ts : List ValType) (vs : List Operand) (at : ℕ) → at ≤ length ts → Stands b at → frame_in (take at ts) b vs ≡ frame_in ts b vs
frame_cut b ts vs at le s =
    let n = length-take-le at ts le in
    sym (frame_kept b vs (take at ts) (drop at ts) (subst (Stands b) (sym n) s)) ∙ ap (λ xs. frame_in xs b vs) (take-append-drop at ts)

-- ---- labels

labels_outer : (ts : List ValType) (os : List Outer) (vs : List Operand) → map label_of (outer ts os vs) ≡ map (label_in ts) (map (λ o. o.block) os)
labels_outer ts [] vs = refl
labels_outer ts (o ∷ os) vs = ap (λ ls. label_in ts o.block ∷ ls) (labels_outer ts os (under o.height vs))

pub labels_are : (ts : List ValType) (b : Block) (os : List Outer) (vs ws : List Operand) → labels (frame_in ts b vs ∷ outer ts os ws) ≡ labels_in ts b os
labels_are ts b os vs ws = ap (λ ls. label_in ts b ∷ ls) (labels_outer ts os ws)

pub label_there : (ts : List ValType) (b target : Block) (os : List Outer) (k : ℕ) → slice_get (blocks_in b os) k ≡ Some target → slice_get (labels_in ts b os) k ≡ Some (label_in ts target)
label_there ts b target os k e = slice_get-map (label_in ts) (blocks_in b os) k ∙ ap (λ (o : Option Block). option_map (label_in ts) o) e

pub label_lacks : (ts : List ValType) (b : Block) (os : List Outer) (k : ℕ) → slice_get (blocks_in b os) k ≡ None → slice_get (labels_in ts b os) k ≡ None
label_lacks ts b os k e = slice_get-map (label_in ts) (blocks_in b os) k ∙ ap (λ (o : Option Block). option_map (label_in ts) o) e

-- a block that a label names stands
stands_outer : (os : List Outer) (target : Block) (k n m : ℕ) → slice_get (map (λ o. o.block) os) k ≡ Some target → Around os n m → Stands target n
stands_outer [] target k n m e a = absurd (grind arith)
stands_outer (o ∷ os) target zero n m e a = let same : o.block ≡ target = grind arith in subst (λ (x : Block). Stands x n) same a.0
stands_outer (o ∷ os) target (suc k) n m e a =
    let s = stands_outer os target k o.block.from o.height e a.2 in
    (s.0, s.1, omega (arith, s.2, a.0.0, a.0.1, a.0.2))

pub target_stands : (b target : Block) (os : List Outer) (k n m : ℕ) → slice_get (blocks_in b os) k ≡ Some target → Open (Some b) os n m → Stands target n
target_stands b target os zero n m e o = let same : b ≡ target = grind arith in subst (λ (x : Block). Stands x n) same o.0
target_stands b target os (suc k) n m e o =
    let s = stands_outer os target k b.from m e o.1 in
    (s.0, s.1, omega (arith, s.2, o.0.0, o.0.1, o.0.2))

-- the block of a label
block_in : (os : List Outer) (k : ℕ) (o : Outer) → slice_get os k ≡ Some o → slice_get (map (λ o. o.block) os) k ≡ Some o.block
block_in os k o e = slice_get-map (λ o. o.block) os k ∙ ap (λ (x : Option Outer). option_map (λ o. o.block) x) e

pub block_found : (b : Block) (os : List Outer) (k : ℕ) (o : Outer) → (k ≡ 0 → ⊥) → slice_get os (k - 1) ≡ Some o → slice_get (blocks_in b os) k ≡ Some o.block
block_found b os zero o some e = absurd (some refl)
block_found b os (suc k) o some e =
    let p : suc k - 1 ≡ k = omega arith in
    block_in os k o (subst (λ j. slice_get os j ≡ Some o) p e)
