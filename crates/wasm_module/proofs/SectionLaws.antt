-- What is read of sections is spelled so, and what is spelled so is read.
--
-- Custom sections may stand anywhere, so where a section is left out those before it and those
-- after it run together. Reading takes them behind the section that comes before. Here the grammar
-- is arranged so too: each custom section stands behind the header or behind a section that is
-- there.
use Rattle.std.proofs.Common.{◌≡◌, ℕ, zero, suc, ◌-◌, ◌≤◌, Bool, true, false, cond, eqb, List, [], ◌∷◌, ◌++◌, length, Ok, refl, sym, ap, subst, ◌∙◌, append_assoc, arith, ◌⊎◌, inl, inr}
use Rattle.std.specs.Prelude.{drop, Option, Some, None}
use Rattle.std.proofs.lemmas.Bool.{eqb-true, eq-eqb}
use Rattle.std.proofs.lemmas.List.{length-append}
use Rattle.wasm_instr.specs.wasm_grammar.Grammar.{SpellsByte, SpellsSized, Then}
use Rattle.wasm_instr.specs.wasm_grammar.Readers.{Takes, IsReader}
use Rattle.wasm_instr.specs.wasm_grammar.Reading.{Read, ◌>>=◌, tag_at, u32_at, name_at, part_at, sized_at}
use Rattle.wasm_instr.specs.wasm_grammar.ReaderLaws.{bind_ok, ok_is, u32_reader, name_reader, tag_found, tag_again, part_found, part_again, sized_reader, Takes-then, regrouped, branch}
use Rattle.wasm_module.specs.Sections.{Repeated, BeginsWithName, IsCustom, AreCustoms, SpellsSection, SpellsGiven, begins, custom_at, customs_at, section_at, next_at, given_at}

-- ---- custom sections

custom_found : (end : ℕ) (bytes rest : List ℕ) → custom_at end bytes ≡ Ok rest → Takes IsCustom bytes rest
unfolding custom_at
custom_found end bytes rest e =
    let a = bind_ok (tag_at 0 end bytes) _ rest e in
    let b = bind_ok (part_at end a.0) _ rest a.2 in
    let c = bind_ok (name_at (end - length b.0.1) b.0.0) _ rest b.2 in
    let name = name_reader.found (end - length b.0.1) b.0.0 c.0.0 c.0.1 c.1 in
    let front = part_found end a.0 b.0.0 b.0.1 b.1 in
    let s = front.spells in
    let inner : BeginsWithName b.0.0 = (c.0.0, name.text, c.0.1, name.spells, name.parts) in
    let sized : Takes (SpellsSized BeginsWithName) a.0 b.0.1 = record { text = front.text; spells = (s.0, b.0.0, s.2, inner, s.4 ∙ ap (λ (t : List ℕ). s.0 ++ t) s.3); parts = front.parts } in
    subst (λ (r : List ℕ). Takes IsCustom bytes r) (ok_is c.2) (Takes-then (tag_found 0 end bytes a.0 a.1) sized)

custom_again : (end : ℕ) (text rest : List ℕ) → IsCustom text → custom_at end (text ++ rest) ≡ Ok rest
unfolding custom_at
custom_again end text rest s =
    let z = s.3 in
    let n = z.3 in
    rw (regrouped s.0 s.1 text rest s.4, tag_again 0 end s.0 (s.1 ++ rest) s.2, regrouped z.0 z.1 s.1 rest z.4, part_again end z.0 z.1 rest z.2, n.4, name_reader.again (end - length rest) n.0 n.1 n.2 n.3) refl

pub customs_found : (n end : ℕ) (bytes rest : List ℕ) → customs_at n end bytes ≡ Ok rest → Takes AreCustoms bytes rest
unfolding customs_at
customs_found zero end bytes rest e = subst (λ (r : List ℕ). Takes AreCustoms bytes r) (ok_is e) (record { text = []; spells = (0, refl); parts = refl })
customs_found (suc n) end bytes rest e =
    branch (begins 0 bytes) (custom_at end bytes >>= λ after. customs_at n end after) (Ok bytes) rest (λ q f.
    let a = bind_ok (custom_at end bytes) _ rest f in
    let w : Takes (Then IsCustom AreCustoms) bytes rest = Takes-then (custom_found end bytes a.0 a.1) (customs_found n end a.0 rest a.2) in
    let s = w.spells in
    record { text = w.text; spells = (suc s.3.0, (s.0, s.1, s.2, s.3.1, s.4)); parts = w.parts }) (λ f.
    subst (λ (r : List ℕ). Takes AreCustoms bytes r) (ok_is f) (record { text = []; spells = (0, refl); parts = refl })) e

-- what begins with a byte goes on so
begins_byte : (id : ℕ) (text more rest : List ℕ) → SpellsByte id text → begins id ((text ++ more) ++ rest) ≡ true
begins_byte id text more rest s = rw s (eq-eqb id id refl)

custom_begins : (text rest : List ℕ) → IsCustom text → begins 0 (text ++ rest) ≡ true
custom_begins text rest s = rw s.4 (begins_byte 0 s.0 s.1 rest s.2)

custom_length : (text : List ℕ) → IsCustom text → 1 ≤ length text
custom_length text s = omega (arith, ap length s.4, length-append s.0 s.1, ap length s.2)

customs_length : (k : ℕ) (text : List ℕ) → Repeated k IsCustom text → k ≤ length text
customs_length zero text s = omega arith
customs_length (suc k) text s = omega (arith, ap length s.4, length-append s.0 s.1, custom_length s.0 s.2, customs_length k s.1 s.3)

customs_again : (n k end : ℕ) (text rest : List ℕ) → k ≤ n → Repeated k IsCustom text → begins 0 rest ≡ false → customs_at n end (text ++ rest) ≡ Ok rest
unfolding customs_at
customs_again zero zero end text rest le s other = rw s refl
customs_again (suc n) zero end text rest le s other = rw (s, other) refl
customs_again zero (suc k) end text rest le s other = absurd (omega (arith, le))
customs_again (suc n) (suc k) end text rest le s other =
    rw (regrouped s.0 s.1 text rest s.4, custom_begins s.0 (s.1 ++ rest) s.2, custom_again end s.0 (s.1 ++ rest) s.2) (customs_again n k end s.1 rest (omega (arith, le)) s.3 other)

-- all of them, where nothing that follows is one
pub all_customs : (end : ℕ) (text rest : List ℕ) → AreCustoms text → begins 0 rest ≡ false → customs_at (length (text ++ rest)) end (text ++ rest) ≡ Ok rest
all_customs end text rest s other = customs_again (length (text ++ rest)) s.0 end text rest (omega (arith, customs_length s.0 text s.1, length-append text rest)) s.1 other

-- ---- a section

begins_with : (id : ℕ) (bytes : List ℕ) → begins id bytes ≡ true → bytes ≡ id ∷ drop 1 bytes
begins_with id [] q = absurd cc
begins_with id (b ∷ bytes) q = ap (λ (n : ℕ). n ∷ bytes) (eqb-true b id q)

section_found : {A : Type 0} (id : ℕ) (absent : A) (Contents : A → List ℕ → Type 0) (read : Read A) → IsReader Contents read → (end : ℕ) (bytes : List ℕ) (x : A) (rest : List ℕ) → section_at id absent read end bytes ≡ Ok (x, rest)
    → Takes (SpellsSection id absent Contents x) bytes rest
unfolding section_at
section_found {A} id absent Contents read reader end bytes x rest e =
    branch (begins id bytes) (sized_at read end (drop 1 bytes)) (Ok (absent, bytes)) (x, rest) (λ q f.
    let contents = (sized_reader Contents read reader).found end (drop 1 bytes) x rest f in
    let tag : Takes (SpellsByte id) bytes (drop 1 bytes) = record { text = id ∷ []; spells = refl; parts = begins_with id bytes q } in
    let both : Takes (Then (SpellsByte id) (SpellsSized (Contents x))) bytes rest = Takes-then tag contents in
    record { text = both.text; spells = inr both.spells; parts = both.parts }) (λ f.
    subst (λ (p : A × List ℕ). Takes (SpellsSection id absent Contents p.0) bytes p.1) (ok_is f) (record { text = []; spells = inl (refl, refl); parts = refl })) e

-- what is read of a section and of those behind it
pub next_found : {A : Type 0} (id : ℕ) (absent : A) (Contents : A → List ℕ → Type 0) (read : Read A) → IsReader Contents read → (end : ℕ) (bytes : List ℕ) (x : A) (rest : List ℕ) → next_at id absent read end bytes ≡ Ok (x, rest)
    → Takes (Then (SpellsSection id absent Contents x) AreCustoms) bytes rest
unfolding next_at
next_found {A} id absent Contents read reader end bytes x rest e =
    let a = bind_ok (section_at id absent read end bytes) _ (x, rest) e in
    let b = bind_ok (customs_at (length a.0.1) end a.0.1) _ (x, rest) a.2 in
    subst (λ (p : A × List ℕ). Takes (Then (SpellsSection id absent Contents p.0) AreCustoms) bytes p.1) (ok_is b.2)
    (Takes-then (section_found id absent Contents read reader end bytes a.0.0 a.0.1 a.1) (customs_found (length a.0.1) end a.0.1 b.0 b.1))

-- A section and the custom sections behind it, or neither.
abbrev pub Next : {A : Type 0} → ℕ → A → (A → List ℕ → Type 0) → A → List ℕ → Type 0
Next id absent Contents x bytes =
    ((x ≡ absent) × (bytes ≡ [])) ⊎ Then (SpellsByte id) (Then (SpellsSized (Contents x)) AreCustoms) bytes

left_out : {A : Type 0} (id : ℕ) (absent : A) (read : Read A) (end : ℕ) (rest : List ℕ) → begins id rest ≡ false → begins 0 rest ≡ false → next_at id absent read end rest ≡ Ok (absent, rest)
unfolding next_at section_at
left_out id absent read end rest no_id no_custom = rw (no_id, all_customs end [] rest (0, refl) no_custom) refl

stands : {A : Type 0} (id : ℕ) (absent : A) (Contents : A → List ℕ → Type 0) (read : Read A) → IsReader Contents read → (end : ℕ) (x : A) (sized customs rest : List ℕ) → SpellsSized (Contents x) sized → AreCustoms customs → begins 0 rest ≡ false
    → next_at id absent read end (id ∷ (sized ++ (customs ++ rest))) ≡ Ok (x, rest)
unfolding next_at section_at
stands id absent Contents read reader end x sized customs rest s c no_custom =
    rw (eq-eqb id id refl, (sized_reader Contents read reader).again end x sized (customs ++ rest) s, all_customs end customs rest c no_custom) refl

pub next_again : {A : Type 0} (id : ℕ) (absent : A) (Contents : A → List ℕ → Type 0) (read : Read A) → IsReader Contents read → (end : ℕ) (x : A) (text rest : List ℕ) → Next id absent Contents x text → begins id rest ≡ false → begins 0 rest ≡ false
    → next_at id absent read end (text ++ rest) ≡ Ok (x, rest)
next_again id absent Contents read reader end x text rest (inl s) no_id no_custom = rw (s.0, s.1) (left_out id absent read end rest no_id no_custom)
next_again id absent Contents read reader end x text rest (inr s) no_id no_custom =
    let z = s.3 in
    rw (regrouped s.0 s.1 text rest s.4, s.2, regrouped z.0 z.1 s.1 rest z.4) (stands id absent Contents read reader end x z.0 z.1 rest z.2 z.3 no_custom)

-- ---- a number that is given

pub given_reader : IsReader SpellsGiven given_at
unfolding given_at
given_reader = record { found = given_found; again = given_again }
  where
    given_found : (end : ℕ) (bytes : List ℕ) (x : Option ℕ) (rest : List ℕ) → given_at end bytes ≡ Ok (x, rest) → Takes (SpellsGiven x) bytes rest
    given_found end bytes x rest e =
        let a = bind_ok (u32_at end bytes) _ (x, rest) e in
        subst (λ (p : Option ℕ × List ℕ). Takes (SpellsGiven p.0) bytes p.1) (ok_is a.2) (u32_reader.found end bytes a.0.0 a.0.1 a.1)

    given_again : (end : ℕ) (x : Option ℕ) (text rest : List ℕ) → SpellsGiven x text → given_at end (text ++ rest) ≡ Ok (x, rest)
    given_again end None text rest s = absurd s
    given_again end (Some n) text rest s = rw (u32_reader.again end n text rest s) refl

-- ---- which sections may follow

-- Whether nothing follows, or a byte that is one of these.
abbrev pub is_one_of : List ℕ → ℕ → Bool
is_one_of [] byte = false
is_one_of (id ∷ ids) byte = cond (eqb byte id) true (is_one_of ids byte)

abbrev pub starts_in : List ℕ → List ℕ → Bool
starts_in ids [] = true
starts_in ids (byte ∷ rest) = is_one_of ids byte

-- what is one of these is no other byte
is_other : (ids : List ℕ) (byte id : ℕ) → is_one_of ids byte ≡ true → is_one_of ids id ≡ false → eqb byte id ≡ false
is_other ids byte id one not_one = by_case (eqb byte id) refl
  where
    by_case : (q : Bool) → eqb byte id ≡ q → q ≡ false
    by_case false e = refl
    by_case true e = absurd (let same : is_one_of ids id ≡ true = subst (λ (n : ℕ). is_one_of ids n ≡ true) (eqb-true byte id e) one in cc)

pub begins_not : (ids : List ℕ) (id : ℕ) (bytes : List ℕ) → starts_in ids bytes ≡ true → is_one_of ids id ≡ false → begins id bytes ≡ false
begins_not ids id [] s not_one = refl
begins_not ids id (byte ∷ rest) s not_one = is_other ids byte id s not_one

one_more : (ids : List ℕ) (id byte : ℕ) → is_one_of ids byte ≡ true → is_one_of (id ∷ ids) byte ≡ true
one_more ids id byte one = rw one (either (eqb byte id))
  where
    either : (q : Bool) → cond q true true ≡ true
    either true = refl
    either false = refl

starts_more : (ids : List ℕ) (id : ℕ) (rest : List ℕ) → starts_in ids rest ≡ true → starts_in (id ∷ ids) rest ≡ true
starts_more ids id [] s = refl
starts_more ids id (byte ∷ rest) s = one_more ids id byte s

starts_byte : (ids : List ℕ) (id : ℕ) (text more : List ℕ) → SpellsByte id text → starts_in (id ∷ ids) (text ++ more) ≡ true
starts_byte ids id text more s = rw (s, eq-eqb id id refl) refl

pub next_starts : {A : Type 0} (ids : List ℕ) (id : ℕ) (absent : A) (Contents : A → List ℕ → Type 0) (x : A) (text rest all : List ℕ) → Next id absent Contents x text → all ≡ text ++ rest → starts_in ids rest ≡ true → starts_in (id ∷ ids) all ≡ true
next_starts ids id absent Contents x text rest all (inl s) parts more = rw (parts, s.1) (starts_more ids id rest more)
next_starts ids id absent Contents x text rest all (inr s) parts more = rw (parts, s.4, append_assoc s.0 s.1 rest) (starts_byte ids id s.0 (s.1 ++ rest) s.2)

-- ---- the grammar, arranged

customs_join : (k : ℕ) (text more : List ℕ) → Repeated k IsCustom text → AreCustoms more → AreCustoms (text ++ more)
customs_join zero text more s m = rw s m
customs_join (suc k) text more s m =
    let others = customs_join k s.1 more s.3 m in
    (suc others.0, (s.0, s.1 ++ more, s.2, others.1, regrouped s.0 s.1 text more s.4))

-- custom sections, a section or none, and custom sections: the last ones run together with the
-- first where there is none
pub arrange : {A : Type 0} {Rest Arranged : List ℕ → Type 0} (id : ℕ) (absent : A) (Contents : A → List ℕ → Type 0) (x : A) → ((bytes : List ℕ) → Rest bytes → Then AreCustoms Arranged bytes) → (bytes : List ℕ)
    → Then AreCustoms (Then (SpellsSection id absent Contents x) Rest) bytes → Then AreCustoms (Then (Next id absent Contents x) Arranged) bytes
arrange {A} {Rest} {Arranged} id absent Contents x later bytes s = by_case s.3.2
  where
    by_case : SpellsSection id absent Contents x s.3.0 → Then AreCustoms (Then (Next id absent Contents x) Arranged) bytes
    by_case (inl no_section) =
        let z = later s.3.1 s.3.3 in
        let rest : s.1 ≡ z.0 ++ z.1 = s.3.4 ∙ ap (λ (t : List ℕ). t ++ s.3.1) no_section.1 ∙ z.4 in
        (s.0 ++ z.0, z.1, customs_join s.2.0 s.0 z.0 s.2.1 z.2, ([], z.1, inl (no_section.0, refl), z.3, refl), s.4 ∙ ap (λ (t : List ℕ). s.0 ++ t) rest ∙ sym (append_assoc s.0 z.0 z.1))
    by_case (inr section) =
        let z = later s.3.1 s.3.3 in
        let next : Next id absent Contents x (s.3.0 ++ z.0) = inr (section.0, section.1 ++ z.0, section.2, (section.1, z.0, section.3, z.2, refl), regrouped section.0 section.1 s.3.0 z.0 section.4) in
        let rest : s.1 ≡ (s.3.0 ++ z.0) ++ z.1 = s.3.4 ∙ ap (λ (t : List ℕ). s.3.0 ++ t) z.4 ∙ sym (append_assoc s.3.0 z.0 z.1) in
        (s.0, s.1, s.2, (s.3.0 ++ z.0, z.1, next, z.3, rest), s.4)
