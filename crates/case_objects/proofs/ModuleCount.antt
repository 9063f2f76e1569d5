-- The count that is read of a module is that of its functions.
use Rattle.std.proofs.Common.{◌≡◌, ℕ, zero, suc, ◌+◌, ◌≤◌, Bool, true, false, cond, eqb, List, [], ◌∷◌, ◌++◌, length, Some, None, Ok, refl, sym, ap, ◌∙◌, append_assoc, arith, ◌⊎◌, inl, inr}
use Rattle.std.proofs.lemmas.List.{length-append, append-nil}
use Rattle.wasm_instr.specs.wasm_grammar.Grammar.{SpellsByte, SpellsU32, SpellsSized, SpellsVector, Then}
use Rattle.wasm_instr.specs.wasm_grammar.ReaderLaws.{part_again, u32_reader}
use Rattle.wasm_sections.specs.Sections.{header}
use Rattle.wasm_instr.specs.Bodies.{SpellsBody}
use Rattle.wasm_module.specs.declared.structure.Module.{Module}
use Rattle.wasm_module.specs.Sections.{Repeated, IsCustom, AreCustoms, SpellsSection}
use Rattle.wasm_module.specs.Modules.{SpellsSections, IsModule}
use Rattle.case_objects.specs.Functions.{Section, section_at, sections_at, contents_of, count_of, functions_at, functions_in, or_none}

-- ---- which bytes are sections

-- The bytes are these sections, one behind the other.
abbrev AreSections : List Section → List ℕ → Type 0
AreSections [] bytes = bytes ≡ []
AreSections (s ∷ ss) bytes = (size : List ℕ) × (rest : List ℕ) × SpellsU32 (length s.contents) size × AreSections ss rest × (bytes ≡ s.id ∷ (size ++ (s.contents ++ rest)))

longer : (id : ℕ) (size contents rest : List ℕ) → length rest + 1 ≤ length (id ∷ (size ++ (contents ++ rest)))
longer id size contents rest = omega (arith, length-append size (contents ++ rest), length-append contents rest)

are_read : (ss : List Section) (n end : ℕ) (bytes : List ℕ) → AreSections ss bytes → length bytes ≤ n → sections_at n end bytes ≡ Ok ss
unfolding sections_at section_at
are_read [] n end bytes s le = rw s refl
are_read (s ∷ ss) zero end bytes p le = absurd (omega (arith, le, ap length p.4, longer s.id p.0 s.contents p.1))
are_read (s ∷ ss) (suc n) end bytes p le =
    let shorter : length p.1 ≤ n = omega (arith, le, ap length p.4, longer s.id p.0 s.contents p.1) in
    rw (p.4, part_again end p.0 s.contents p.1 p.2, are_read ss n end p.1 p.3 shorter) refl

are_joined : (ss ts : List Section) (a b : List ℕ) → AreSections ss a → AreSections ts b → AreSections (ss ++ ts) (a ++ b)
are_joined [] ts a b p q = rw p q
are_joined (s ∷ ss) ts a b p q =
    let inner : (p.0 ++ (s.contents ++ p.1)) ++ b ≡ p.0 ++ (s.contents ++ (p.1 ++ b)) = append_assoc p.0 (s.contents ++ p.1) b ∙ ap (λ (t : List ℕ). p.0 ++ t) (append_assoc s.contents p.1 b) in
    (p.0, p.1 ++ b, p.2, are_joined ss ts p.1 b p.3 q, ap (λ (t : List ℕ). t ++ b) p.4 ∙ ap (λ (t : List ℕ). s.id ∷ t) inner)

-- ---- which of them is the function section

found_later : (ss ts : List Section) → contents_of 3 ss ≡ None → contents_of 3 (ss ++ ts) ≡ contents_of 3 ts
found_later [] ts none = refl
found_later (s ∷ ss) ts none = by_case (eqb s.id 3) (found_later ss ts) none
  where
    by_case : (q : Bool) → (contents_of 3 ss ≡ None → contents_of 3 (ss ++ ts) ≡ contents_of 3 ts) → cond q (Some s.contents) (contents_of 3 ss) ≡ None
        → cond q (Some s.contents) (contents_of 3 (ss ++ ts)) ≡ contents_of 3 ts
    by_case true later e = absurd cc
    by_case false later e = later e

found_before : (ss ts : List Section) → contents_of 3 ts ≡ None → contents_of 3 (ss ++ ts) ≡ contents_of 3 ss
found_before [] ts none = none
found_before (s ∷ ss) ts none = ap (cond (eqb s.id 3) (Some s.contents)) (found_before ss ts none)

-- Sections without a function section.
record Apart (bytes : List ℕ) : Type 0 where
  sections : List Section
  are : AreSections sections bytes
  none : contents_of 3 sections ≡ None

-- Sections of which the function section, or its absence, says that there are so many.
record Counted (n : ℕ) (bytes : List ℕ) : Type 0 where
  sections : List Section
  are : AreSections sections bytes
  count : (end : ℕ) → count_of end (contents_of 3 sections) ≡ Ok n

abbrev IsApart : (List ℕ → Type 0) → Type 0
IsApart P = (bytes : List ℕ) → P bytes → Apart bytes

abbrev IsCounted : ℕ → (List ℕ → Type 0) → Type 0
IsCounted n P = (bytes : List ℕ) → P bytes → Counted n bytes

apart_then : (P Q : List ℕ → Type 0) → IsApart P → IsApart Q → IsApart (Then P Q)
apart_then P Q p q bytes s =
    let a = p s.0 s.2 in
    let b = q s.1 s.3 in
    rw s.4 (record { sections = a.sections ++ b.sections; are = are_joined a.sections b.sections s.0 s.1 a.are b.are; none = found_later a.sections b.sections a.none ∙ b.none })

then_counted : (n : ℕ) (P Q : List ℕ → Type 0) → IsApart P → IsCounted n Q → IsCounted n (Then P Q)
then_counted n P Q p q bytes s =
    let a = p s.0 s.2 in
    let b = q s.1 s.3 in
    rw s.4 (record { sections = a.sections ++ b.sections; are = are_joined a.sections b.sections s.0 s.1 a.are b.are; count = λ end. ap (count_of end) (found_later a.sections b.sections a.none) ∙ b.count end })

counted_then : (n : ℕ) (P Q : List ℕ → Type 0) → IsCounted n P → IsApart Q → IsCounted n (Then P Q)
counted_then n P Q p q bytes s =
    let a = p s.0 s.2 in
    let b = q s.1 s.3 in
    rw s.4 (record { sections = a.sections ++ b.sections; are = are_joined a.sections b.sections s.0 s.1 a.are b.are; count = λ end. ap (count_of end) (found_before a.sections b.sections b.none) ∙ a.count end })

-- ---- the sections of a module

one_section : (id : ℕ) (Part : List ℕ → Type 0) (bytes : List ℕ) (p : Then (SpellsByte id) (SpellsSized Part) bytes) → AreSections (record { id = id; contents = p.3.1 } ∷ []) bytes
one_section id Part bytes p =
    let z = p.3 in
    let sized : p.1 ≡ z.0 ++ (z.1 ++ []) = z.4 ∙ ap (λ (t : List ℕ). z.0 ++ t) (sym (append-nil z.1)) in
    (z.0, [], z.2, refl, p.4 ∙ ap (λ (t : List ℕ). t ++ p.1) p.2 ∙ ap (λ (t : List ℕ). id ∷ t) sized)

customs_apart : IsApart AreCustoms
customs_apart bytes s = several s.0 bytes s.1
  where
    custom_apart : IsApart IsCustom
    custom_apart bytes s = record { sections = record { id = 0; contents = s.3.1 } ∷ []; are = one_section 0 _ bytes s; none = refl }

    several : (n : ℕ) → IsApart (Repeated n IsCustom)
    several zero bytes s = record { sections = []; are = s; none = refl }
    several (suc n) bytes s = apart_then IsCustom (Repeated n IsCustom) custom_apart (several n) bytes s

section_apart : (id : ℕ) (Absent : Type 0) (Part : List ℕ → Type 0) → eqb id 3 ≡ false → IsApart (λ bytes. (Absent × (bytes ≡ [])) ⊎ Then (SpellsByte id) (SpellsSized Part) bytes)
section_apart id Absent Part other bytes (inl s) = record { sections = []; are = s.1; none = refl }
section_apart id Absent Part other bytes (inr s) =
    record { sections = record { id = id; contents = s.3.1 } ∷ []; are = one_section id Part bytes s; none = rw other refl }

functions_counted : (types : List ℕ) → IsCounted (length types) (SpellsSection 3 [] (SpellsVector SpellsU32) types)
functions_counted types bytes (inl s) = record { sections = []; are = s.1; count = λ end. rw s.0 refl }
functions_counted types bytes (inr s) =
    let v = s.3.3 in
    record { sections = record { id = 3; contents = s.3.1 } ∷ []; are = one_section 3 (SpellsVector SpellsU32 types) bytes s; count = λ end. rw (v.4, u32_reader.again end (length types) v.0 v.1 v.2) refl }

sections_counted : (m : Module) → IsCounted (length m.functions) (SpellsSections SpellsBody m)
sections_counted m =
    then_counted _ _ _ customs_apart (then_counted _ _ _ (section_apart 1 _ _ refl)
    (then_counted _ _ _ customs_apart (then_counted _ _ _ (section_apart 2 _ _ refl)
    (then_counted _ _ _ customs_apart (counted_then _ _ _ (functions_counted m.functions)
    (apart_then _ _ customs_apart (apart_then _ _ (section_apart 4 _ _ refl)
    (apart_then _ _ customs_apart (apart_then _ _ (section_apart 5 _ _ refl)
    (apart_then _ _ customs_apart (apart_then _ _ (section_apart 6 _ _ refl)
    (apart_then _ _ customs_apart (apart_then _ _ (section_apart 7 _ _ refl)
    (apart_then _ _ customs_apart (apart_then _ _ (section_apart 9 _ _ refl)
    (apart_then _ _ customs_apart (apart_then _ _ (section_apart 12 _ _ refl)
    (apart_then _ _ customs_apart (apart_then _ _ (section_apart 10 _ _ refl)
    (apart_then _ _ customs_apart (apart_then _ _ (section_apart 11 _ _ refl)
    customs_apart)))))))))))))))))))))

counted_read : (n end : ℕ) (bytes : List ℕ) → Counted n bytes → functions_at end (header ++ bytes) ≡ Ok n
unfolding functions_at
counted_read n end bytes c = rw (are_read c.sections (length bytes) end bytes c.are (omega arith)) (c.count end)

pub module_count : (m : Module) (bytes : List ℕ) → IsModule m bytes → functions_in bytes ≡ length m.functions
module_count m bytes s =
    let p = s.1 in
    let front : bytes ≡ header ++ p.1 = p.4 ∙ ap (λ (t : List ℕ). t ++ p.1) p.2 in
    let read : functions_at (length bytes) bytes ≡ Ok (length m.functions) = rw front (counted_read (length m.functions) (length (header ++ p.1)) p.1 (sections_counted m p.1 p.3)) in
    ap or_none read
