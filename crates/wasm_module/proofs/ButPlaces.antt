-- A module whose bodies are spelled up to their places is the same module with other places.
use Rattle.std.proofs.Common.{◌≡◌, ℕ, suc, List, [], ◌∷◌, length, refl, sym, ap, subst, ◌∙◌, inl, inr}
use Rattle.std.specs.Prelude.{map}
use Rattle.wasm_instr.specs.wasm_grammar.Grammar.{SpellsU32, SpellsSized, SpellsMany, SpellsVector, Then}
use Rattle.wasm_instr.specs.declared.instr.Instr.{Instr}
use Rattle.wasm_instr.specs.declared.body.LocalRun.{LocalRun}
use Rattle.wasm_instr.specs.declared.body.Body.{Body}
use Rattle.wasm_instr.specs.Bodies.{SpellsBody}
use Rattle.wasm_instr.specs.Placeless.{SpellsPlaceless}
use Rattle.wasm_module.specs.declared.structure.Module.{Module}
use Rattle.wasm_module.specs.Sections.{SpellsSection}
use Rattle.wasm_module.specs.Modules.{SpellsSections, IsModuleOf, IsModule, placeless, IsModuleButPlaces}

-- ---- lists of bodies

abbrev Codes : (Body → List ℕ → Type 0) → List Body → List ℕ → Type 0
Codes Code = SpellsMany (λ b. SpellsSized (Code b))

same_head : {A : Type 0} {x y : A} {xs ys : List A} → x ∷ xs ≡ y ∷ ys → x ≡ y
same_head e = cc

same_tail : {A : Type 0} {x y : A} {xs ys : List A} → x ∷ xs ≡ y ∷ ys → xs ≡ ys
same_tail e = cc

same_length : (xs ys : List Body) → map placeless xs ≡ map placeless ys → length xs ≡ length ys
same_length [] [] e = refl
same_length [] (y ∷ ys) e = absurd cc
same_length (x ∷ xs) [] e = absurd cc
same_length (x ∷ xs) (y ∷ ys) e = ap suc (same_length xs ys (same_tail e))

-- bodies that are spelled are spelled up to their places, and so are those that differ in these
codes_forget : (xs ys : List Body) (bytes : List ℕ) → map placeless xs ≡ map placeless ys → Codes SpellsBody xs bytes → Codes SpellsPlaceless ys bytes
codes_forget [] [] bytes e s = s
codes_forget [] (y ∷ ys) bytes e s = absurd cc
codes_forget (x ∷ xs) [] bytes e s = absurd cc
codes_forget (x ∷ xs) (y ∷ ys) bytes e s =
    let head : placeless x ≡ placeless y = same_head e in
    let z = s.2 in
    let code : SpellsSized (SpellsPlaceless y) s.0 = (z.0, z.1, z.2, (x, ap (λ (p : List LocalRun × List Instr). p.0) head, ap (λ (p : List LocalRun × List Instr). p.1) head, z.3), z.4) in
    (s.0, s.1, code, codes_forget xs ys s.1 (same_tail e) s.3, s.4)

-- the bodies, with the places that they have in these bytes
codes_placed : (ys : List Body) (bytes : List ℕ) → Codes SpellsPlaceless ys bytes → (xs : List Body) × (map placeless xs ≡ map placeless ys) × Codes SpellsBody xs bytes
codes_placed [] bytes s = ([], refl, s)
codes_placed (y ∷ ys) bytes s =
    let others = codes_placed ys s.1 s.3 in
    let z = s.2 in
    let b = z.3 in
    let head : placeless b.0 ≡ placeless y = pair_same b.1 b.2 in
    (b.0 ∷ others.0, cons_same head others.1, (s.0, s.1, (z.0, z.1, z.2, b.3, z.4), others.2, s.4))
  where
    pair_same : {runs : List LocalRun} {more : List LocalRun} {xs : List Instr} {zs : List Instr} → runs ≡ more → xs ≡ zs → (let p : List LocalRun × List Instr = (runs, xs) in p ≡ (more, zs))
    pair_same e f = cc

    cons_same : {p q : List LocalRun × List Instr} {ps qs : List (List LocalRun × List Instr)} → p ≡ q → ps ≡ qs → p ∷ ps ≡ q ∷ qs
    cons_same e f = cc

abbrev CodeSection : (Body → List ℕ → Type 0) → List Body → List ℕ → Type 0
CodeSection Code = SpellsSection 10 [] (SpellsVector (λ b. SpellsSized (Code b)))

section_forgets : (xs ys : List Body) (bytes : List ℕ) → map placeless xs ≡ map placeless ys → CodeSection SpellsBody xs bytes → CodeSection SpellsPlaceless ys bytes
section_forgets xs [] bytes e (inl s) = inl (refl, s.1)
section_forgets xs (y ∷ ys) bytes e (inl s) = absurd (let none : map placeless [] ≡ map placeless (y ∷ ys) = subst (λ (zs : List Body). map placeless zs ≡ map placeless (y ∷ ys)) s.0 e in cc)
section_forgets xs ys bytes e (inr s) =
    let z = s.3 in
    let v = z.3 in
    let count : SpellsU32 (length ys) v.0 = subst (λ (n : ℕ). SpellsU32 n v.0) (same_length xs ys e) v.2 in
    inr (s.0, s.1, s.2, (z.0, z.1, z.2, (v.0, v.1, count, codes_forget xs ys v.1 e v.3, v.4), z.4), s.4)

-- what bodies the code section has
abbrev Placed : List Body → Type 0
Placed ys = (xs : List Body) × (map placeless xs ≡ map placeless ys)

section_placed : (ys : List Body) (bytes : List ℕ) → CodeSection SpellsPlaceless ys bytes → (xs : Placed ys) × CodeSection SpellsBody xs.0 bytes
section_placed ys bytes (inl s) = ((ys, refl), inl s)
section_placed ys bytes (inr s) =
    let z = s.3 in
    let v = z.3 in
    let placed = codes_placed ys v.1 v.3 in
    let count : SpellsU32 (length placed.0) v.0 = subst (λ (n : ℕ). SpellsU32 n v.0) (sym (same_length placed.0 ys placed.1)) v.2 in
    ((placed.0, placed.1), inr (s.0, s.1, s.2, (z.0, z.1, z.2, (v.0, v.1, count, placed.2, v.4), z.4), s.4))

-- ---- the sections

-- behind one part, and behind custom sections and a section
behind : {P Q R : List ℕ → Type 0} → ((bytes : List ℕ) → Q bytes → R bytes) → (bytes : List ℕ) → Then P Q bytes → Then P R bytes
behind f bytes s = (s.0, s.1, s.2, f s.1 s.3, s.4)

past : {P S Q R : List ℕ → Type 0} → ((bytes : List ℕ) → Q bytes → R bytes) → (bytes : List ℕ) → Then P (Then S Q) bytes → Then P (Then S R) bytes
past f = behind (behind f)

behind_some : {P Q : List ℕ → Type 0} {Y : Type 0} {R : Y → List ℕ → Type 0} → ((bytes : List ℕ) → Q bytes → (y : Y) × R y bytes) → (bytes : List ℕ) → Then P Q bytes → (y : Y) × Then P (R y) bytes
behind_some f bytes s = let more = f s.1 s.3 in (more.0, (s.0, s.1, s.2, more.1, s.4))

past_some : {P S Q : List ℕ → Type 0} {Y : Type 0} {R : Y → List ℕ → Type 0} → ((bytes : List ℕ) → Q bytes → (y : Y) × R y bytes) → (bytes : List ℕ) → Then P (Then S Q) bytes → (y : Y) × Then P (Then S (R y)) bytes
past_some f = behind_some (behind_some f)

-- nine sections stand before the code section
sections_forget : (m : Module) (xs : List Body) → map placeless xs ≡ map placeless m.bodies → (bytes : List ℕ) → SpellsSections SpellsBody (record m { bodies = xs }) bytes → SpellsSections SpellsPlaceless m bytes
sections_forget m xs e =
    past (past (past (past (past (past (past (past (past (behind
    (λ bytes s. (s.0, s.1, section_forgets xs m.bodies s.0 e s.2, s.3, s.4)))))))))))

sections_placed : (m : Module) (bytes : List ℕ) → SpellsSections SpellsPlaceless m bytes → (xs : Placed m.bodies) × SpellsSections SpellsBody (record m { bodies = xs.0 }) bytes
sections_placed m =
    past_some (past_some (past_some (past_some (past_some (past_some (past_some (past_some (past_some (behind_some
    (λ bytes s. let here = section_placed m.bodies s.0 s.2 in (here.0, (s.0, s.1, here.1, s.3, s.4))))))))))))

-- ---- modules

pub forgets : (m : Module) (bytes : List ℕ) → IsModuleButPlaces m bytes → IsModuleOf SpellsPlaceless m bytes
forgets m bytes s =
    let same = s.1 in
    let changed : Module = record m { bodies = s.0.bodies } in
    let is : IsModule changed bytes = subst (λ (x : Module). IsModule x bytes) same.rest s.2 in
    let h = is.1 in
    (record { code = is.0.code ∙ same_length s.0.bodies m.bodies same.bodies; counted = is.0.counted }, (h.0, h.1, h.2, sections_forget m s.0.bodies same.bodies h.1 h.3, h.4))

pub placed : (m : Module) (bytes : List ℕ) → IsModuleOf SpellsPlaceless m bytes → IsModuleButPlaces m bytes
placed m bytes s =
    let h = s.1 in
    let sections = sections_placed m h.1 h.3 in
    let xs = sections.0 in
    (record m { bodies = xs.0 }, record { rest = refl; bodies = xs.1 }, (record { code = s.0.code ∙ sym (same_length xs.0 m.bodies xs.1); counted = s.0.counted }, (h.0, h.1, h.2, sections.1, h.4)))
