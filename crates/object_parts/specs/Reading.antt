-- Reading the sections of an object in file order: its parts, or the first section that isn't
-- spelled whole and what stands there.
use Rattle.std.specs.Prelude.{◌≡◌, ℕ, ◌+◌, ◌==◌, List, [], ◌∷◌, Option, Some, None, if◌then◌else◌, Result, Ok, Err}
use Rattle.wasm_instr.specs.wasm_grammar.declared.fault.Stop.{Stop}
use Rattle.wasm_instr.specs.wasm_grammar.declared.fault.ReadFault.{ReadFault}
use Rattle.wasm_instr.specs.wasm_grammar.declared.fault.ReadFault.TheVariants as read
use Rattle.wasm_instr.specs.wasm_grammar.Reading.{u32_at, name_at}
use Rattle.wasm_module.specs.wasm_sections.declared.section.SectionSpan.{SectionSpan}
use Rattle.body_windows.specs.reloc_section.declared.entry.Reloc.{Reloc}
use Rattle.body_windows.specs.reloc_section.declared.section.RelocSection.{RelocSection}
use Rattle.body_windows.specs.reloc_section.Relocs.{relocs_at}
use Rattle.object_parts.specs.declared.kind.CustomKind.{CustomKind}
use Rattle.object_parts.specs.declared.kind.CustomKind.TheVariants as customs
use Rattle.object_parts.specs.declared.reading.SectionStop.{SectionStop}
use Rattle.object_parts.specs.declared.reading.PartsFault.{PartsFault}
use Rattle.object_parts.specs.declared.reading.PartsFault.TheVariants as faults
use Rattle.object_parts.specs.declared.parts.Parts.{Parts}
use Rattle.object_parts.specs.Kinds.{kind_of, custom_kind_of}
use Rattle.object_parts.specs.Adding.{no_parts, has_id, end_of, add_kind}
use Rattle.object_parts.specs.Sections.{bytes_in}

-- ---- the relocations of the code

-- The entries; none where they aren't spelled.
abbrev pub entries_or_none : Result RelocSection Stop → List Reloc
entries_or_none (Ok r) = r.entries
entries_or_none (Err e) = []

abbrev pub code_target : List SectionSpan → ℕ → List ℕ → Result (ℕ × List ℕ) Stop → Option (List Reloc)
code_target all end bytes (Ok target) = if has_id 10 all target.0 then Some (entries_or_none (relocs_at end bytes)) else None
code_target all end bytes (Err e) = None

-- Behind the name of a custom section: the relocations, where they are for the code section.
abbrev pub code_relocs_of : List SectionSpan → CustomKind → ℕ → List ℕ → Option (List Reloc)
code_relocs_of all customs.Linking end bytes = None
code_relocs_of all customs.Relocs end bytes = code_target all end bytes (u32_at end bytes)
code_relocs_of all customs.Shared end bytes = None
code_relocs_of all customs.Other end bytes = None

abbrev pub code_relocs_named : List SectionSpan → ℕ → Result (List ℕ × List ℕ) Stop → Option (List Reloc)
code_relocs_named all end (Ok name) = code_relocs_of all (custom_kind_of name.0) end name.1
code_relocs_named all end (Err e) = None

-- Those of one section.
abbrev pub code_relocs_in : List SectionSpan → List ℕ → SectionSpan → Option (List Reloc)
code_relocs_in all bytes s = if s.id == 0 then code_relocs_named all (end_of s.payload) (name_at (end_of s.payload) (bytes_in bytes s.payload)) else None

abbrev pub or_else : {A : Type 0} → Option A → A → A
or_else (Some x) y = x
or_else None y = y

-- The relocations of the code: those of the first section `reloc.` that is for the code section
-- (there is one at most, as is judged later).
unfoldable pub code_relocs : List SectionSpan → List ℕ → List SectionSpan → List Reloc
code_relocs all bytes [] = []
code_relocs all bytes (s ∷ ss) = or_else (code_relocs_in all bytes s) (code_relocs all bytes ss)

-- ---- the sections

infixl 10 ◌>=>◌
abbrev pub ◌>=>◌ : {A B : Type 0} → Result A SectionStop → (A → Result B SectionStop) → Result B SectionStop
(Ok x) >=> f = f x
(Err e) >=> f = Err e

-- What stands in the section at this place among all sections.
abbrev pub in_section : {A : Type 0} → ℕ → Result A Stop → Result A SectionStop
in_section at (Ok x) = Ok x
in_section at (Err e) = Err (record { section = at; stop = e })

unfoldable pub parts_from : List SectionSpan → List Reloc → List ℕ → ℕ → Parts → List SectionSpan → Result Parts SectionStop
parts_from all relocs bytes at parts [] = Ok parts
parts_from all relocs bytes at parts (s ∷ ss) =
    in_section at (add_kind all relocs (kind_of s.id) parts s.payload (bytes_in bytes s.payload))
    >=> λ more. parts_from all relocs bytes (at + 1) more ss

-- The parts of an object that is cut into these sections.
unfoldable pub parts_of : List SectionSpan → List ℕ → Result Parts SectionStop
parts_of all bytes = parts_from all (code_relocs all bytes all) bytes 0 no_parts all

-- The fault of the section at this place.
abbrev pub fault_in : ℕ → ReadFault → PartsFault
fault_in at (read.Stopped stop) = faults.Stopped (record { section = at; stop = stop })
fault_in at read.OutOfMemory = faults.OutOfMemory

-- What the program answers, beside what reading gives. Want of memory alone is free.
abbrev pub GivesParts : Result Parts PartsFault → Result Parts SectionStop → Type 0
GivesParts (Ok parts) said = said ≡ Ok parts
GivesParts (Err (faults.Stopped stop)) said = said ≡ Err stop
GivesParts (Err faults.OutOfMemory) said = Unit {0}

-- The same of a step that adds to the parts.
abbrev pub GivesMore : {A : Type 0} → Result A PartsFault → Parts → Result Parts SectionStop → Type 0
GivesMore (Ok x) parts said = said ≡ Ok parts
GivesMore (Err (faults.Stopped stop)) parts said = said ≡ Err stop
GivesMore (Err faults.OutOfMemory) parts said = Unit {0}
