-- The immediates of a body that was read stand in order.
use Rattle.std.proofs.Common.{◌≡◌, ℕ, ◌+◌, ◌-◌, ◌≤◌, ◌∙◌, false, List, [], ◌∷◌, ◌++◌, length, refl, sym, ap, subst, arith}
use Rattle.std.proofs.lemmas.List.{length-append}
use Rattle.wasm_instr.specs.leb_codec.Spelling.{EndsOnce}
use Rattle.wasm_instr.specs.declared.body.Body.{Body}
use Rattle.wasm_instr.specs.declared.body.Placed.{Placed}
use Rattle.wasm_instr.specs.declared.instr.BlockKind.TheVariants as blocks
use Rattle.wasm_instr.specs.declared.instr.Instr.{Instr}
use Rattle.wasm_instr.specs.declared.instr.Instr.TheVariants.{Block, Call, CallIndirect, GlobalAt, Access, I32Const}
use Rattle.wasm_instr.specs.Instrs.{SpellsHead, SpellsLast}
use Rattle.wasm_instr.specs.Bodies.{Nest, IsCode, SpellsBody}
use Rattle.body_windows.specs.declared.immediate.Immediate.{Immediate}
use Rattle.body_windows.specs.Immediates.{immediates_in, immediates, AreInOrder, end_of}

-- a number has a byte at least
ends_long : (text : List ℕ) → EndsOnce text → 1 ≤ length text
ends_long [] ends = absurd ends
ends_long (b ∷ text) ends = omega arith

order_append : (from mid end : ℕ) (xs ys : List Immediate) → AreInOrder from mid xs → AreInOrder mid end ys → AreInOrder from end (xs ++ ys)
order_append from mid end [] [] a b = omega (arith, a, b)
order_append from mid end [] (y ∷ ys) a b = (omega (arith, a, b.0), b.1, b.2)
order_append from mid end (x ∷ xs) ys a b = (a.0, a.1, order_append (x.place + x.len) mid end xs ys a.2 b)

-- one immediate behind an opcode
alone : (at mid end len : ℕ) → at ≤ mid → len ≡ end - mid → mid + 1 ≤ end → (at ≤ mid) × (1 ≤ len) × (mid + len ≤ end)
alone at mid end len le is more = (le, omega (arith, is), omega (arith, is))

-- the immediates of one instruction
pub instr_order : (x : Instr) (head last : List ℕ) (at mid end : ℕ) → SpellsHead x head → SpellsLast x last → mid ≡ at + length head → end ≡ mid + length last → AreInOrder at end (immediates_in x at mid end)
instr_order (Block op (blocks.Index n)) head last at mid end h l m e = alone at mid end _ (omega arith) refl (omega (arith, ends_long last l.spelled.ends))
instr_order (Call function) head last at mid end h l m e = alone at mid end _ (omega arith) refl (omega (arith, ends_long last l.spelled.ends))
instr_order (CallIndirect kind table) head last at mid end h l m e =
    let one : length h.0 ≡ 1 = ap length h.2 in
    let long : length head ≡ length h.0 + length h.1 = ap length h.4 ∙ length-append h.0 h.1 in
    let first : 1 ≤ length h.1 = ends_long h.1 h.3.spelled.ends in
    let second : 1 ≤ length last = ends_long last l.spelled.ends in
    (omega arith, omega arith, (omega arith, omega arith, omega arith))
instr_order (GlobalAt op global) head last at mid end h l m e = alone at mid end _ (omega arith) refl (omega (arith, ends_long last l.spelled.ends))
instr_order (Access op align offset) head last at mid end h l m e = alone at mid end _ (omega arith) refl (omega (arith, ends_long last l.spelled.ends))
instr_order (I32Const n) head last at mid end h l m e = alone at mid end _ (omega arith) refl (omega (arith, ends_long last l.spelled.ends))
instr_order _ head last at mid end h l m e = omega arith

-- the immediates of code
pub code_order : (end : ℕ) (nest : Nest) (code : List Placed) (bytes : List ℕ) → length bytes ≤ end → IsCode end nest code bytes
    → AreInOrder (end - length bytes) end (immediates code) × (end_of (end - length bytes) code ≡ end)
code_order end [] code bytes le s =
    let none : length bytes ≡ 0 = ap length s.1 in
    rw s.0 (omega arith, omega arith)
code_order end (o ∷ os) [] bytes le s = absurd s
code_order end (o ∷ os) (p ∷ code) bytes le s =
    let long : length bytes ≡ length s.0 + (length s.1 + length s.2) = ap length s.4 ∙ length-append s.0 (s.1 ++ s.2) ∙ ap (λ (n : ℕ). length s.0 + n) (length-append s.1 s.2) in
    let at : p.at ≡ end - length bytes = ap (λ (q : Placed). q.at) s.8 in
    let mid : p.mid ≡ end - length (s.1 ++ s.2) = ap (λ (q : Placed). q.mid) s.8 in
    let till : p.end ≡ end - length s.2 = ap (λ (q : Placed). q.end) s.8 in
    let here : AreInOrder p.at p.end (immediates_in p.instr p.at p.mid p.end) =
    instr_order p.instr s.0 s.1 p.at p.mid p.end s.6 s.7 (omega (arith, at, mid, long, length-append s.1 s.2)) (omega (arith, mid, till, long, length-append s.1 s.2)) in
    let later = code_order end s.3 code s.2 (omega (arith, long)) s.10 in
    let from : AreInOrder p.end end (immediates code) = subst (λ (n : ℕ). AreInOrder n end (immediates code)) (sym till) later.0 in (
      subst (λ (n : ℕ). AreInOrder n end (immediates_in p.instr p.at p.mid p.end ++ immediates code)) at
          (order_append p.at p.end end (immediates_in p.instr p.at p.mid p.end) (immediates code) here from),
      ap (λ (n : ℕ). end_of n code) till ∙ later.1,
    )

in_order_from : (a b end : ℕ) (is : List Immediate) → a ≤ b → AreInOrder b end is → AreInOrder a end is
in_order_from a b end [] le order = omega (arith, order)
in_order_from a b end (i ∷ is) le order = (omega (arith, order.0), order.1, order.2)

-- The immediates of a body that was read stand in order, and its last instruction ends where its
-- bytes do.
pub body_order : (body : Body) (bytes : List ℕ) → SpellsBody body bytes → AreInOrder 0 (length bytes) (immediates body.code) × (end_of 0 body.code ≡ length bytes)
body_order body bytes s =
    let long : length bytes ≡ length s.0 + length s.1 = ap length s.2 ∙ length-append s.0 s.1 in
    let both = code_order (length bytes) (false ∷ []) body.code s.1 (omega (arith, long)) s.4 in
    (in_order_from 0 (length bytes - length s.1) (length bytes) (immediates body.code) (omega arith) both.0, ends body.code s.4 both.1)
  where
    ends : (code : List Placed) → IsCode (length bytes) (false ∷ []) code s.1 → end_of (length bytes - length s.1) code ≡ length bytes → end_of 0 code ≡ length bytes
    ends [] c e = absurd c
    ends (p ∷ code) c e = e

-- What `windows` asks of a body, where it was read.
pub windows_order : (body : Body) (bytes : List ℕ) → SpellsBody body bytes → AreInOrder 0 (end_of 0 body.code) (immediates body.code)
windows_order body bytes s =
    let both = body_order body bytes s in
    subst (λ (end : ℕ). AreInOrder 0 end (immediates body.code)) (sym both.1) both.0
