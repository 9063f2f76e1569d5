-- Sections one after another, as loops go over them.
use Rattle.std.proofs.Common.{◌≡◌, ℕ, ◌+◌, ◌≤◌, ◌<◌, List, [], ◌∷◌, length, drop, get_or, Some, None, Result, Ok, Err, refl, sym, ap, ◌∙◌, arith}
use Rattle.std.proofs.lemmas.List.{at_drop_more, length-append, drop_all}
use Rattle.wasm_instr.specs.wasm_grammar.declared.fault.Stop.{Stop}
use Rattle.wasm_instr.specs.wasm_grammar.declared.fault.ReadFault.{ReadFault}
use Rattle.wasm_instr.specs.wasm_grammar.declared.fault.ReadFault.TheVariants.{Stopped, OutOfMemory}
use Rattle.wasm_instr.specs.wasm_grammar.Fault.{Fails}
use Rattle.wasm_instr.specs.wasm_grammar.Reading.{part_at, u32_at}
use Rattle.wasm_instr.specs.wasm_grammar.ReaderLaws.{part_found, u32_reader, taken_length}
use Rattle.wasm_module.specs.wasm_sections.declared.section.SectionSpan.{SectionSpan}
use Rattle.body_windows.specs.reloc_section.declared.entry.Reloc.{Reloc}
use Rattle.object_parts.specs.declared.parts.Parts.{Parts}
use Rattle.object_parts.specs.declared.reading.SectionStop.{SectionStop}
use Rattle.object_parts.specs.Kinds.{kind_of}
use Rattle.object_parts.specs.Adding.{no_parts, add_kind}
use Rattle.object_parts.specs.Sections.{bytes_in, AddInTurn}
use Rattle.object_parts.specs.Reading.{◌>=>◌, in_section, code_relocs_in, code_relocs, parts_from, parts_of, fault_in, GivesParts, GivesMore}
use Rattle.object_parts.specs.declared.reading.PartsFault.{PartsFault}
use Rattle.object_parts.proofs.Added.{kind_found, kind_again}
use Rattle.std.specs.Prelude.{IfOk}

-- a part of a size, and what follows it, lie in the bytes
pub part_fits : (end : ℕ) (bytes part rest : List ℕ) → part_at end bytes ≡ Ok (part, rest) → length part + length rest ≤ length bytes
part_fits end bytes part rest e =
    let t = part_found end bytes part rest e in
    let s = t.spells in
    omega (arith, taken_length t, ap length s.4, length-append s.0 s.1, ap length s.3)

pub count_fits : (end : ℕ) (bytes : List ℕ) (n : ℕ) (rest : List ℕ) → u32_at end bytes ≡ Ok (n, rest) → length rest ≤ length bytes
count_fits end bytes n rest e = omega (arith, taken_length (u32_reader.found end bytes n rest e))

-- ---- the relocations of the code

pub found_here : (all : List SectionSpan) (bytes : List ℕ) (sections : List SectionSpan) (i : ℕ) (d : SectionSpan) (relocs total : List Reloc) → i < length sections
    → code_relocs_in all bytes (get_or sections i d) ≡ Some relocs → code_relocs all bytes (drop i sections) ≡ total → relocs ≡ total
unfolding code_relocs
found_here all bytes sections i d relocs total lt here so_far =
    let one : code_relocs all bytes (drop i sections) ≡ relocs = at_drop_more (code_relocs all bytes) sections i d lt ∙ rw here refl in
    sym one ∙ so_far

pub not_here : (all : List SectionSpan) (bytes : List ℕ) (sections : List SectionSpan) (i : ℕ) (d : SectionSpan) (total : List Reloc) → i < length sections
    → code_relocs_in all bytes (get_or sections i d) ≡ None → code_relocs all bytes (drop i sections) ≡ total → code_relocs all bytes (drop (i + 1) sections) ≡ total
unfolding code_relocs
not_here all bytes sections i d total lt here so_far =
    let one : code_relocs all bytes (drop i sections) ≡ code_relocs all bytes (drop (i + 1) sections) = at_drop_more (code_relocs all bytes) sections i d lt ∙ rw here refl in
    sym one ∙ so_far

pub nowhere : (all : List SectionSpan) (bytes : List ℕ) (sections : List SectionSpan) (i : ℕ) (total : List Reloc) → length sections ≤ i
    → code_relocs all bytes (drop i sections) ≡ total → [] ≡ total
unfolding code_relocs
nowhere all bytes sections i total le so_far =
    let one : code_relocs all bytes (drop i sections) ≡ [] = rw (drop_all i sections le) refl in
    sym one ∙ so_far

-- ---- the parts

-- the sections count from the place where the first of them stands
module _ (all : List SectionSpan) (relocs : List Reloc) (bytes : List ℕ) (from : ℕ) where
  pub added : (sections : List SectionSpan) (i : ℕ) (d : SectionSpan) (parts more : Parts) (total : Result Parts SectionStop) → i < length sections
      → add_kind all relocs (kind_of (get_or sections i d).id) parts (get_or sections i d).payload (bytes_in bytes (get_or sections i d).payload) ≡ Ok more
      → parts_from all relocs bytes (from + i) parts (drop i sections) ≡ total → parts_from all relocs bytes (from + (i + 1)) more (drop (i + 1) sections) ≡ total
  unfolding parts_from
  added sections i d parts more total lt h so_far =
      let next : from + i + 1 ≡ from + (i + 1) = omega arith in
      let one : parts_from all relocs bytes (from + i) parts (drop i sections) ≡ parts_from all relocs bytes (from + (i + 1)) more (drop (i + 1) sections)
      = at_drop_more (parts_from all relocs bytes (from + i) parts) sections i d lt ∙ rw (h, next) refl in
      sym one ∙ so_far

  pub stopped : (A : Type 0) (fault : ReadFault) (sections : List SectionSpan) (i : ℕ) (d : SectionSpan) (parts more : Parts) (total : Result Parts SectionStop) → i < length sections
      → Fails fault (add_kind all relocs (kind_of (get_or sections i d).id) parts (get_or sections i d).payload (bytes_in bytes (get_or sections i d).payload))
      → parts_from all relocs bytes (from + i) parts (drop i sections) ≡ total
      → (let r : Result A PartsFault = Err (fault_in (from + i) fault) in GivesMore r more total)
  unfolding parts_from
  stopped A OutOfMemory sections i d parts more total lt h so_far = tt
  stopped A (Stopped e) sections i d parts more total lt h so_far =
      let one : parts_from all relocs bytes (from + i) parts (drop i sections) ≡ Err (record { section = from + i; stop = e })
      = at_drop_more (parts_from all relocs bytes (from + i) parts) sections i d lt ∙ rw h refl in
      sym so_far ∙ one

  pub all_added : (sections : List SectionSpan) (i : ℕ) (parts : Parts) (total : Result Parts SectionStop) → length sections ≤ i
      → parts_from all relocs bytes (from + i) parts (drop i sections) ≡ total → total ≡ Ok parts
  unfolding parts_from
  all_added sections i parts total le so_far =
      let one : parts_from all relocs bytes (from + i) parts (drop i sections) ≡ Ok parts = rw (drop_all i sections le) refl in
      sym so_far ∙ one

-- ---- what the sections spell

in_section_ok : {A B : Type 0} (at : ℕ) (r : Result A Stop) (f : A → Result B SectionStop) (y : B) → (in_section at r >=> f) ≡ Ok y → (x : A) × (r ≡ Ok x) × (f x ≡ Ok y)
in_section_ok at (Ok x) f y e = (x, refl, e)
in_section_ok at (Err d) f y e = absurd cc

done_ok : (x y : Parts) → (let r : Result Parts SectionStop = Ok x in r ≡ Ok y) → x ≡ y
done_ok x y e = cc

module _ (all : List SectionSpan) (relocs : List Reloc) (bytes : List ℕ) where
  pub sections_found : (at : ℕ) (parts : Parts) (sections : List SectionSpan) (after : Parts) → parts_from all relocs bytes at parts sections ≡ Ok after → AddInTurn all relocs bytes parts sections after
  unfolding parts_from
  sections_found at parts [] after e = done_ok parts after e
  sections_found at parts (s ∷ ss) after e =
      let a = in_section_ok at (add_kind all relocs (kind_of s.id) parts s.payload (bytes_in bytes s.payload)) (λ more. parts_from all relocs bytes (at + 1) more ss) after e in
      (a.0, kind_found all relocs (kind_of s.id) parts s.payload (bytes_in bytes s.payload) a.0 a.1, sections_found (at + 1) a.0 ss after a.2)

  pub sections_again : (at : ℕ) (parts : Parts) (sections : List SectionSpan) (after : Parts) → AddInTurn all relocs bytes parts sections after → parts_from all relocs bytes at parts sections ≡ Ok after
  unfolding parts_from
  sections_again at parts [] after s = ap (λ (x : Parts). let r : Result Parts SectionStop = Ok x in r) s
  sections_again at parts (x ∷ xs) after s =
      rw (kind_again all relocs (kind_of x.id) parts x.payload (bytes_in bytes x.payload) s.0 s.1) (sections_again (at + 1) s.0 xs after s.2)

pub parts_found : (all : List SectionSpan) (bytes : List ℕ) (parts : Parts) → parts_of all bytes ≡ Ok parts → AddInTurn all (code_relocs all bytes all) bytes no_parts all parts
unfolding parts_of
parts_found all bytes parts e = sections_found all (code_relocs all bytes all) bytes 0 no_parts all parts e

pub parts_again : (all : List SectionSpan) (bytes : List ℕ) (parts : Parts) → AddInTurn all (code_relocs all bytes all) bytes no_parts all parts → parts_of all bytes ≡ Ok parts
unfolding parts_of
parts_again all bytes parts s = sections_again all (code_relocs all bytes all) bytes 0 no_parts all parts s

pub is_spelled : (all : List SectionSpan) (bytes : List ℕ) (r : Result Parts PartsFault) → GivesParts r (parts_of all bytes) → IfOk r (λ parts. AddInTurn all (code_relocs all bytes all) bytes no_parts all parts)
is_spelled all bytes (Ok parts) given = parts_found all bytes parts given
is_spelled all bytes (Err e) given = tt
