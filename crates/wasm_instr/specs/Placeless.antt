-- Bodies up to their places: what is written of a body is its locals and its instructions.
use Rattle.std.proofs.Common.{◌≡◌, ℕ, ◌<◌, ◌^◌, false, List, [], ◌∷◌, ◌++◌, length, refl, sym, ap, subst, ◌∙◌, append_assoc, Some}
use Rattle.wasm_grammar.specs.Grammar.{SpellsMany, SpellsVector, Then}
use Rattle.wasm_grammar.specs.Writers.{Writes}
use Rattle.wasm_grammar.specs.WriterLaws.{Appends-then}
use Rattle.wasm_instr.specs.declared.instr.Instr.{Instr}
use Rattle.wasm_instr.specs.declared.body.LocalRun.{LocalRun}
use Rattle.wasm_instr.specs.declared.body.Placed.{Placed}
use Rattle.wasm_instr.specs.declared.body.Body.{Body}
use Rattle.wasm_instr.specs.Instrs.{SpellsInstr}
use Rattle.wasm_instr.specs.Bodies.{SpellsRun, all_locals, SpellsLocals, Nest, step_of, placed, IsCode, SpellsBody}

-- The instructions, with no places.
abbrev pub instrs_of : List Placed → List Instr
instrs_of [] = []
instrs_of (p ∷ code) = p.instr ∷ instrs_of code

-- The bytes spell a body that has the same locals and the same instructions. The places in this one
-- are not looked at.
abbrev pub SpellsPlaceless : Body → List ℕ → Type 0
SpellsPlaceless body bytes = (other : Body) × (other.locals ≡ body.locals) × (instrs_of other.code ≡ instrs_of body.code) × SpellsBody other bytes

-- ---- laws

-- The instructions open and close blocks in order, and the last one alone closes the outermost.
abbrev Nested : Nest → List Instr → Type 0
Nested [] xs = xs ≡ []
Nested (o ∷ os) [] = ⊥
Nested (o ∷ os) (x ∷ xs) = (next : Nest) × (step_of (o ∷ os) x ≡ Some next) × Nested next xs

code_parts : (end : ℕ) (nest : Nest) (code : List Placed) (bytes : List ℕ) → IsCode end nest code bytes → Nested nest (instrs_of code) × SpellsMany SpellsInstr (instrs_of code) bytes
code_parts end [] code bytes s = (ap instrs_of s.0, subst (λ (ps : List Placed). SpellsMany SpellsInstr (instrs_of ps) bytes) (sym s.0) s.1)
code_parts end (o ∷ os) [] bytes s = absurd s
code_parts end (o ∷ os) (p ∷ code) bytes s =
    let others = code_parts end s.3 code s.2 s.10 in
    ((s.3, s.9, others.0), (s.0 ++ s.1, s.2, (s.5, (s.0, s.1, s.6, s.7, refl)), others.1, s.4 ∙ sym (append_assoc s.0 s.1 s.2)))

-- the same instructions, with the places that they have in these bytes
code_placed : (end : ℕ) (nest : Nest) (xs : List Instr) (bytes : List ℕ) → Nested nest xs → SpellsMany SpellsInstr xs bytes → (code : List Placed) × (instrs_of code ≡ xs) × IsCode end nest code bytes
code_placed end [] xs bytes n s = ([], sym n, (refl, subst (λ (ys : List Instr). SpellsMany SpellsInstr ys bytes) n s))
code_placed end (o ∷ os) [] bytes n s = absurd n
code_placed end (o ∷ os) (x ∷ xs) bytes n s =
    let others = code_placed end n.0 xs s.1 n.2 s.3 in
    let t = s.2.1 in
    let parts : bytes ≡ t.0 ++ (t.1 ++ s.1) = s.4 ∙ ap (λ (f : List ℕ). f ++ s.1) t.4 ∙ append_assoc t.0 t.1 s.1 in
    (placed end x bytes (t.1 ++ s.1) s.1 ∷ others.0, ap (λ (ys : List Instr). x ∷ ys) others.1, (t.0, t.1, s.1, n.0, parts, s.2.0, t.2, t.3, refl, n.1, others.2))

-- what has to be written: the locals and the instructions
record Parts (body : Body) (bytes : List ℕ) : Type 0 where
  pub fits : all_locals body.locals < 2 ^ 32
  pub nested : Nested (false ∷ []) (instrs_of body.code)
  pub spells : Then (SpellsVector SpellsRun body.locals) (SpellsMany SpellsInstr (instrs_of body.code)) bytes

parts_of : (body : Body) (bytes : List ℕ) → SpellsPlaceless body bytes → Parts body bytes
parts_of body bytes s =
    let b = s.3 in
    let c = code_parts (length bytes) (false ∷ []) s.0.code b.1 b.4 in
    let locals : SpellsLocals body.locals b.0 = subst (λ (runs : List LocalRun). SpellsLocals runs b.0) s.1 b.3 in
    let code : Nested (false ∷ []) (instrs_of body.code) × SpellsMany SpellsInstr (instrs_of body.code) b.1 = subst (λ (xs : List Instr). Nested (false ∷ []) xs × SpellsMany SpellsInstr xs b.1) s.2 c in
    record { fits = locals.0; nested = code.0; spells = (b.0, b.1, locals.1, code.1, b.2) }

of_parts : (body : Body) (bytes : List ℕ) → Parts body bytes → SpellsPlaceless body bytes
of_parts body bytes p =
    let s = p.spells in
    let c = code_placed (length bytes) (false ∷ []) (instrs_of body.code) s.1 p.nested s.3 in
    (record { locals = body.locals; code = c.0 }, refl, c.1, (s.0, s.1, s.4, (p.fits, s.2), c.2))

-- locals and instructions that are written one after the other are the body
pub body_written : (body : Body) (a b c : List ℕ) → Writes (SpellsVector SpellsRun body.locals) a b → Writes (SpellsMany SpellsInstr (instrs_of body.code)) b c → Writes (SpellsPlaceless body) a c
body_written body a b c locals code = λ some s.
    let p = parts_of body some s in
    let t = p.spells in
    let both = Appends-then (locals t.0 t.2) (code t.1 t.3) in
    record {
      text = both.text;
      spells = of_parts body both.text (record { fits = p.fits; nested = p.nested; spells = both.spells });
      parts = both.parts;
      least = λ other o. both.least other ((parts_of body other o).spells);
    }

-- one instruction more
pub instrs_more : (code : List Placed) (p : Placed) → instrs_of (code ++ p ∷ []) ≡ instrs_of code ++ p.instr ∷ []
instrs_more [] p = refl
instrs_more (q ∷ code) p = ap (λ (xs : List Instr). q.instr ∷ xs) (instrs_more code p)
