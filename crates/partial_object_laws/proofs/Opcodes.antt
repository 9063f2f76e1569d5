-- The byte before the index of an instruction of a global is the instruction's opcode.
use Rattle.std.proofs.Common.{◌≡◌, ℕ, suc, ◌+◌, ◌-◌, ◌≤◌, false, List, [], ◌∷◌, ◌++◌, length, inl, inr, sym, ap, ◌∙◌, subst, arith, append_assoc, length-append}
use Rattle.std.specs.Prelude.{slice_index_or}
use Rattle.std.proofs.Math.Seq.{get_or-append_seam}
use Rattle.list_places.specs.Has.{Has}
use Rattle.object_rules.specs.wasm_instr.declared.instr.Instr.TheVariants as instrs
use Rattle.object_rules.specs.wasm_instr.declared.body.Body.{Body}
use Rattle.object_rules.specs.wasm_instr.declared.body.Placed.{Placed}
use Rattle.object_rules.specs.wasm_instr.Instrs.{SpellsHead}
use Rattle.object_rules.specs.wasm_instr.Bodies.{Nest, IsCode, SpellsBody, placed}

pub record StandsBefore (whole : List ℕ) (x : Placed) (op : ℕ) : Type 0 where
  pub behind : 1 ≤ x.mid
  pub opcode : slice_index_or whole (x.mid - 1) 0 ≡ op

before_here : (whole front bytes head tail rest : List ℕ) (x : Placed) (op g : ℕ) → whole ≡ front ++ bytes → bytes ≡ head ++ tail → x.instr ≡ instrs.GlobalAt op g → SpellsHead x.instr head
    → x ≡ placed (length whole) x.instr bytes tail rest → StandsBefore whole x op
before_here whole front bytes head tail rest x op g is cut instr spelled at =
    let one : head ≡ op ∷ [] = subst (λ i. SpellsHead i head) instr spelled in
    let all : whole ≡ front ++ (op ∷ tail) = is ∙ ap (λ bs. front ++ bs) (cut ∙ ap (λ hs. hs ++ tail) one) in
    let long : length whole ≡ length front + suc (length tail) = ap (λ (bs : List ℕ). length bs) all ∙ length-append front (op ∷ tail) in
    let mid : x.mid ≡ length whole - length tail = ap (λ (y : Placed). y.mid) at in
    let place : x.mid - 1 ≡ length front = omega (arith, mid, long) in
    record { behind = omega (arith, mid, long); opcode = ap (λ k. slice_index_or whole k 0) place ∙ (ap (λ bs. slice_index_or bs (length front) 0) all ∙ get_or-append_seam front op tail 0) }

before_code : (whole front bytes : List ℕ) (nest : Nest) (code : List Placed) → whole ≡ front ++ bytes → IsCode (length whole) nest code bytes
    → (x : Placed) → Has code x → (op g : ℕ) → x.instr ≡ instrs.GlobalAt op g → StandsBefore whole x op
before_code whole front bytes nest [] is code x has op g instr = absurd has
before_code whole front bytes [] (p ∷ ps) is code x has op g instr = absurd (let none = code.0 in grind arith)
before_code whole front bytes (b ∷ others) (p ∷ ps) is code x (inl e) op g instr =
    subst (λ y. StandsBefore whole y op) e (before_here whole front bytes code.0 (code.1 ++ code.2) code.2 p op g is code.4 (ap (λ (y : Placed). y.instr) e ∙ instr) code.6 code.8)
before_code whole front bytes (b ∷ others) (p ∷ ps) is code x (inr has) op g instr =
    let next : whole ≡ (front ++ (code.0 ++ code.1)) ++ code.2 =
    is ∙ (ap (λ bs. front ++ bs) (code.4 ∙ sym (append_assoc code.0 code.1 code.2)) ∙ sym (append_assoc front (code.0 ++ code.1) code.2)) in
    before_code whole (front ++ (code.0 ++ code.1)) code.2 code.3 ps next code.10 x has op g instr

pub before_index : (body : Body) (bytes : List ℕ) → SpellsBody body bytes → (x : Placed) → Has body.code x → (op g : ℕ) → x.instr ≡ instrs.GlobalAt op g → StandsBefore bytes x op
before_index body bytes s x has op g instr = before_code bytes s.0 s.1 (false ∷ []) body.code s.2 s.4 x has op g instr
