-- The places of a body's instructions rise, with no gap.
use Rattle.std.proofs.Common.{◌≡◌, ℕ, ◌+◌, ◌-◌, ◌<◌, ◌≤◌, false, List, [], ◌∷◌, ◌++◌, length, sym, ap, subst, arith}
use Rattle.std.proofs.lemmas.List.{length-append}
use Rattle.wasm_instr.specs.declared.body.Placed.{Placed}
use Rattle.wasm_instr.specs.declared.body.Body.{Body}
use Rattle.wasm_instr.specs.InstrLaws.{head_taken}
use Rattle.wasm_instr.specs.Bodies.{SpellsLocals, Nest, IsCode, SpellsBody}

-- The first instruction begins at the one place, each begins where the one before it ends, its last
-- immediate stands behind its first byte and in it or at its end, and the last one ends at the other
-- place.
abbrev pub Rise : ℕ → ℕ → List Placed → Type 0
Rise from end [] = from ≡ end
Rise from end (p ∷ code) = (p.at ≡ from) × (p.at < p.mid) × (p.mid ≤ p.end) × Rise p.end end code

-- So do they in all of a body: from the end of the locals to its end.
abbrev pub HasRisingPlaces : Body → List ℕ → Type 0
HasRisingPlaces body bytes =
    (locals : List ℕ) × (code : List ℕ) × (bytes ≡ locals ++ code) × SpellsLocals body.locals locals × Rise (length locals) (length bytes) body.code

code_rises : (end : ℕ) (nest : Nest) (code : List Placed) (bytes : List ℕ) → length bytes ≤ end → IsCode end nest code bytes → Rise (end - length bytes) end code
code_rises end [] code bytes le s =
    let none : end - length bytes ≡ end = omega (arith, ap length s.1) in
    subst (λ (ps : List Placed). Rise (end - length bytes) end ps) (sym s.0) none
code_rises end (o ∷ os) [] bytes le s = absurd s
code_rises end (o ∷ os) (p ∷ code) bytes le s =
    let all : length bytes ≡ length s.0 + (length s.1 + length s.2) = omega (arith, ap length s.4, length-append s.0 (s.1 ++ s.2), length-append s.1 s.2) in
    let some = head_taken p.instr s.0 s.6 in
    let at : p.at ≡ end - length bytes = ap (λ (q : Placed). q.at) s.8 in
    let mid : p.mid ≡ end - length (s.1 ++ s.2) = ap (λ (q : Placed). q.mid) s.8 in
    let until : p.end ≡ end - length s.2 = ap (λ (q : Placed). q.end) s.8 in
    let others : Rise (end - length s.2) end code = code_rises end s.3 code s.2 (omega (arith, all, le)) s.10 in
    (at, omega (arith, at, mid, all, some, le, length-append s.1 s.2), omega (arith, mid, until, length-append s.1 s.2), rw until others)

pub body_rises : (body : Body) (bytes : List ℕ) → SpellsBody body bytes → HasRisingPlaces body bytes
body_rises body bytes s =
    let whole : length bytes ≡ length s.0 + length s.1 = omega (arith, ap length s.2, length-append s.0 s.1) in
    let from : length bytes - length s.1 ≡ length s.0 = omega (arith, whole) in
    (s.0, s.1, s.2, s.3, subst (λ (n : ℕ). Rise n (length bytes) body.code) from (code_rises (length bytes) (false ∷ []) body.code s.1 (omega (arith, whole)) s.4))
