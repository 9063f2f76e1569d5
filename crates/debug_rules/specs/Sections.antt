-- The custom sections of an object (Core 5.5.3), and which of them are debug sections or hold relocations for one
-- (Linking.md, "Relocation Sections").
use Rattle.std.specs.Prelude.{ℕ, ◌+◌, ◌==◌, ◌&&◌, Bool, false, List, [], ◌∷◌, map, filter, take, drop, codes, if◌then◌else◌, Option, Some, None, Result, Ok, Err}
use Rattle.std.specs.Str.{bytes_eq}
use Rattle.wl_base.specs.declared.span.Span.{Span}
use Rattle.wasm_grammar.specs.declared.fault.Stop.{Stop}
use Rattle.wasm_grammar.specs.Reading.{bytes_at, u32_at}
use Rattle.wasm_sections.specs.declared.section.SectionSpan.{SectionSpan}
use Rattle.wasm_sections.specs.declared.fault.FrameFault.{FrameFault}
use Rattle.wasm_sections.specs.Reading.{frame_at}

-- A custom section: its place among all sections, its name, and what stands behind the name.
pub record Custom : Type 0 where
  pub at : ℕ
  pub name : List ℕ
  pub content : List ℕ

abbrev pub payload_of : List ℕ → Span → List ℕ
payload_of bytes s = take s.len (drop s.start bytes)

abbrev pub option_onto : {A : Type 0} → Option A → List A → List A
option_onto None xs = xs
option_onto (Some x) xs = x ∷ xs

abbrev pub named : ℕ → Result (List ℕ × List ℕ) Stop → Option Custom
named at (Ok x) = Some (record { at = at; name = x.0; content = x.1 })
named at (Err stop) = None

-- the custom section that a section is
abbrev pub custom_at : List ℕ → ℕ → SectionSpan → Option Custom
custom_at bytes at s = if s.id == 0 then named at (bytes_at s.payload.len (payload_of bytes s.payload)) else None

abbrev pub customs_from : List ℕ → ℕ → List SectionSpan → List Custom
customs_from bytes at [] = []
customs_from bytes at (s ∷ ss) = option_onto (custom_at bytes at s) (customs_from bytes (at + 1) ss)

abbrev pub customs_in : List ℕ → Result (List SectionSpan) FrameFault → List Custom
customs_in bytes (Ok sections) = customs_from bytes 0 sections
customs_in bytes (Err fault) = []

-- The custom sections of an object, in the order of the file. Bytes that aren't cut into sections have none.
unfoldable pub customs : List ℕ → List Custom
customs bytes = customs_in bytes (frame_at bytes)

abbrev pub is_debug : Custom → Bool
is_debug c = bytes_eq (take 7 c.name) (codes ".debug_")

abbrev pub is_target : ℕ → Result (ℕ × List ℕ) Stop → Bool
is_target at (Ok x) = x.0 == at
is_target at (Err stop) = false

-- whether a section holds relocations for the section at a place
abbrev pub is_relocs_for : ℕ → Custom → Bool
is_relocs_for at c = bytes_eq (take 6 c.name) (codes "reloc.") && is_target at (u32_at 0 c.content)

-- what stands in the sections that hold relocations for the one at a place
abbrev pub payloads_for : ℕ → List Custom → List (List ℕ)
payloads_for at all = map (λ c. c.content) (filter (is_relocs_for at) all)
