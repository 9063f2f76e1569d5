-- What is written is spelled so, and as short as can be.
use Rattle.std.proofs.Common.{◌≡◌, ℕ, zero, suc, ◌/◌, ◌<◌, ◌≤◌, ◌^◌, List, [], ◌++◌, length, refl, sym, ap, subst, ◌∙◌, arith, inl, inr, append_assoc, eqb, true, false}
use Rattle.std.specs.Prelude.{None}
use Rattle.std.proofs.lemmas.Bool.{cases_lt, lt-ltb, le-ltb}
use Rattle.std.proofs.lemmas.List.{length-append, append-nil}
use Rattle.wasm_instr.specs.leb_codec.Spelling.{magnitude}
use Rattle.wasm_instr.specs.leb_codec.Shortest.{shortest, u32}
use Rattle.wasm_instr.proofs.leb_codec_lemmas.Values.{u32_fits}
use Rattle.wasm_instr.proofs.leb_codec_lemmas.Computed.{u32_spells, u32_least}
use Rattle.wasm_instr.specs.wasm_grammar.Grammar.{SpellsByte, SpellsU32, SpellsBytes, SpellsSized, SpellsVector, Then}
use Rattle.wasm_instr.specs.wasm_grammar.Writers.{Appends, Writes}
use Rattle.wasm_instr.specs.wasm_grammar.WriterLaws.{Writes-from, Writes-then}
use Rattle.wasm_instr.specs.wasm_types.Types.{SpellsFuncType, SpellsImport, SpellsTableType, SpellsLimits}
use Rattle.wasm_instr.specs.Placeless.{SpellsPlaceless}
use Rattle.wasm_module.specs.declared.structure.Module.{Module}
use Rattle.wasm_module.specs.Parts.{SpellsGlobal, SpellsExport, SpellsElement, SpellsDataSegment}
use Rattle.wasm_module.specs.Sections.{AreCustoms, SpellsSection, SpellsGiven}
use Rattle.wasm_module.specs.Modules.{SpellsSections}

-- ---- sizes

one_at_least : (k n : ℕ) → 1 ≤ length (shortest k n)
one_at_least zero n = omega arith
one_at_least (suc k) n = elim (cases_lt n 128) [
  | inl low ↦ rw (lt-ltb n 128 low) (omega arith)
  | inr high ↦ rw (le-ltb n 128 high) (omega arith)
]

-- a lesser number takes no more bytes
no_longer : (k n m : ℕ) → n ≤ m → length (shortest k n) ≤ length (shortest k m)
no_longer zero n m le = omega arith
no_longer (suc k) n m le = elim (cases_lt n 128) [
  | inl low ↦ rw (lt-ltb n 128 low) (omega (arith, one_at_least (suc k) m))
  | inr high ↦
      let high_too : 128 ≤ m = omega arith in
      rw (le-ltb n 128 high, le-ltb m 128 high_too) (omega (arith, no_longer k (n / 128) (m / 128) (omega arith)))
]

-- a number has a spelling that is no longer than any of a number that is no less
size_within : (n m : ℕ) (text : List ℕ) → n ≤ m → SpellsU32 m text → (size : List ℕ) × SpellsU32 n size × (length size ≤ length text)
unfolding u32
size_within n m text le s =
    let fits : magnitude text < 2 ^ 32 = u32_fits text s.spelled in
    let least : length (u32 m) ≤ length text = u32_least m text s in
    (u32 n, u32_spells n (omega (arith, s.value_is)), omega (arith, no_longer 4 n m le))

-- what was written for itself, and then as the bytes of a part, is a part of that size
pub sized_written : {P : List ℕ → Type 0} (contents old new : List ℕ) → Writes P [] contents → Appends (SpellsBytes contents) old new → Writes (SpellsSized P) old new
sized_written {P} contents old new w a = λ some s.
    let inner = w s.1 s.3 in
    let b = a.spells in
    record {
      text = a.text;
      spells = (b.0, contents, b.2, subst P (sym inner.parts) inner.spells, b.4 ∙ ap (λ (t : List ℕ). b.0 ++ t) b.3);
      parts = a.parts;
      least = λ other o.
          let shorter : length contents ≤ length o.1 = omega (arith, ap length inner.parts, inner.least o.1 o.3) in
          let size = size_within (length contents) (length o.1) o.0 shorter o.2 in
          omega (arith, a.least (size.0 ++ contents) (size.0, contents, size.1, refl, refl), length-append size.0 contents, size.2, ap length o.4, length-append o.0 o.1);
    }

-- ---- sections

-- what is left out is written so
pub nothing_written : {A : Type 0} (id : ℕ) (absent x : A) (Contents : A → List ℕ → Type 0) (old : List ℕ) → x ≡ absent → Writes (SpellsSection id absent Contents x) old old
nothing_written id absent x Contents old is = λ some s. record { text = []; spells = inl (is, refl); parts = sym (append-nil old); least = λ other o. omega arith }

-- a section that can't be left out is one that stands there
stands_there : {A : Type 0} (id : ℕ) (absent x : A) (Contents : A → List ℕ → Type 0) (text : List ℕ) → ((x ≡ absent) → ⊥) → SpellsSection id absent Contents x text → Then (SpellsByte id) (SpellsSized (Contents x)) text
stands_there id absent x Contents text there (inl s) = absurd (there s.0)
stands_there id absent x Contents text there (inr s) = s

-- the two parts of what was written
first_part : {P Q : List ℕ → Type 0} (old new : List ℕ) (a : Appends (Then P Q) old new) → Appends P old (old ++ a.spells.0)
first_part {P} {Q} old new a = record {
  text = a.spells.0;
  spells = a.spells.2;
  parts = refl;
  least = λ other o.
      let all : length a.text ≤ length (other ++ a.spells.1) = a.least (other ++ a.spells.1) (other, a.spells.1, o, a.spells.3, refl) in
      omega (arith, all, length-append other a.spells.1, ap length a.spells.4, length-append a.spells.0 a.spells.1);
}

second_part : {P Q : List ℕ → Type 0} (old new : List ℕ) (a : Appends (Then P Q) old new) → Appends Q (old ++ a.spells.0) new
second_part {P} {Q} old new a = record {
  text = a.spells.1;
  spells = a.spells.3;
  parts = a.parts ∙ ap (λ (t : List ℕ). old ++ t) a.spells.4 ∙ sym (append_assoc old a.spells.0 a.spells.1);
  least = λ other o.
      let all : length a.text ≤ length (a.spells.0 ++ other) = a.least (a.spells.0 ++ other) (a.spells.0, other, a.spells.2, o, refl) in
      omega (arith, all, length-append a.spells.0 other, ap length a.spells.4, length-append a.spells.0 a.spells.1);
}

pub section_written : {A : Type 0} (id : ℕ) (absent x : A) (Contents : A → List ℕ → Type 0) (contents old new : List ℕ) → ((x ≡ absent) → ⊥) → Writes (Contents x) [] contents → Appends (Then (SpellsByte id) (SpellsBytes contents)) old new
    → Writes (SpellsSection id absent Contents x) old new
section_written id absent x Contents contents old new there w a = λ some s.
    let both : Writes (Then (SpellsByte id) (SpellsSized (Contents x))) old new = Writes-then (Writes-from (first_part old new a)) (sized_written contents (old ++ a.spells.0) new w (second_part old new a)) in
    let done = both some (stands_there id absent x Contents some there s) in
    record { text = done.text; spells = inr done.spells; parts = done.parts; least = λ other o. done.least other (stands_there id absent x Contents other there o) }

-- a list that has an item isn't empty
pub has_items : {A : Type 0} (xs : List A) → eqb (length xs) 0 ≡ false → (xs ≡ []) → ⊥
has_items xs some is = let none : eqb (length xs) 0 ≡ true = rw is refl in cc

-- ---- the whole

-- a slice of the items has their section
pub same_items : {A : Type 0} (id : ℕ) (absent : A) (Contents : A → List ℕ → Type 0) (x items : A) (old new : List ℕ) → items ≡ x → Writes (SpellsSection id absent Contents items) old new → Writes (SpellsSection id absent Contents x) old new
same_items {A} id absent Contents x items old new is w = subst (λ (y : A). Writes (SpellsSection id absent Contents y) old new) is w

no_customs : (old : List ℕ) → Writes AreCustoms old old
no_customs old = λ some s. record { text = []; spells = (0, refl); parts = sym (append-nil old); least = λ other o. omega arith }

pub sections_written : (m : Module) (t0 t1 t2 t3 t4 t5 t6 t7 t8 t9 t10 t11 : List ℕ)
    → Writes (SpellsSection 1 [] (SpellsVector SpellsFuncType) m.types) t0 t1
    → Writes (SpellsSection 2 [] (SpellsVector SpellsImport) m.imports) t1 t2
    → Writes (SpellsSection 3 [] (SpellsVector SpellsU32) m.functions) t2 t3
    → Writes (SpellsSection 4 [] (SpellsVector SpellsTableType) m.tables) t3 t4
    → Writes (SpellsSection 5 [] (SpellsVector SpellsLimits) m.memories) t4 t5
    → Writes (SpellsSection 6 [] (SpellsVector (SpellsGlobal true)) m.globals) t5 t6
    → Writes (SpellsSection 7 [] (SpellsVector SpellsExport) m.exports) t6 t7
    → Writes (SpellsSection 9 [] (SpellsVector (SpellsElement true)) m.elements) t7 t8
    → Writes (SpellsSection 12 None SpellsGiven m.data_count) t8 t9
    → Writes (SpellsSection 10 [] (SpellsVector (λ b. SpellsSized (SpellsPlaceless b))) m.bodies) t9 t10
    → Writes (SpellsSection 11 [] (SpellsVector (SpellsDataSegment true)) m.data_segments) t10 t11
    → Writes (SpellsSections SpellsPlaceless m) t0 t11
sections_written m t0 t1 t2 t3 t4 t5 t6 t7 t8 t9 t10 t11 types imports functions tables memories globals exports elements data_count bodies data_segments =
    Writes-then (no_customs t0) (Writes-then types (
    Writes-then (no_customs t1) (Writes-then imports (
    Writes-then (no_customs t2) (Writes-then functions (
    Writes-then (no_customs t3) (Writes-then tables (
    Writes-then (no_customs t4) (Writes-then memories (
    Writes-then (no_customs t5) (Writes-then globals (
    Writes-then (no_customs t6) (Writes-then exports (
    Writes-then (no_customs t7) (Writes-then elements (
    Writes-then (no_customs t8) (Writes-then data_count (
    Writes-then (no_customs t9) (Writes-then bodies (
    Writes-then (no_customs t10) (Writes-then data_segments (no_customs t11))))))))))))))))))))))

-- what holds of the value in itself needs no bytes
pub facts_written : {F : Type 0} {P : List ℕ → Type 0} {old new : List ℕ} → Writes P old new → Writes (λ text. F × P text) old new
facts_written w = λ some s. let a = w some s.1 in record { text = a.text; spells = (s.0, a.spells); parts = a.parts; least = λ other o. a.least other o.1 }
