-- The section of relocations for the code section, read before its turn. The relocations of the code are
-- its entries.
use Rattle.std.specs.Prelude.{◌≡◌, ℕ, ◌+◌, ◌==◌, ◌<◌, List, [], ◌∷◌, length, drop, Option, Some, None, if◌then◌else◌, Result, Ok, Err}
use Rattle.wasm_instr.specs.wasm_grammar.declared.fault.Stop.{Stop}
use Rattle.wasm_instr.specs.wasm_grammar.Reading.{u32_at, name_at}
use Rattle.wasm_module.specs.wasm_sections.declared.section.SectionSpan.{SectionSpan}
use Rattle.body_windows.specs.reloc_section.declared.entry.Reloc.{Reloc}
use Rattle.body_windows.specs.reloc_section.declared.section.RelocSection.{RelocSection}
use Rattle.body_windows.specs.reloc_section.Relocs.{relocs_at}
use Rattle.object_parts.specs.declared.kind.CustomKind.{CustomKind}
use Rattle.object_parts.specs.declared.kind.CustomKind.TheVariants as customs
use Rattle.object_parts.specs.declared.early.Early.{Early}
use Rattle.object_parts.specs.Kinds.{custom_kind_of}
use Rattle.object_parts.specs.Adding.{has_id, end_of}
use Rattle.object_parts.specs.Sections.{bytes_in}

-- What is read of a section, where it is for the code section.
abbrev pub early_target : List SectionSpan → ℕ → List ℕ → Result (ℕ × List ℕ) Stop → Option (Result RelocSection Stop)
early_target all end bytes (Ok target) = if has_id 10 all target.0 then Some (relocs_at end bytes) else None
early_target all end bytes (Err e) = None

abbrev pub early_of : List SectionSpan → CustomKind → ℕ → List ℕ → Option (Result RelocSection Stop)
early_of all customs.Linking end bytes = None
early_of all customs.Relocs end bytes = early_target all end bytes (u32_at end bytes)
early_of all customs.Shared end bytes = None
early_of all customs.Other end bytes = None

abbrev pub early_named : List SectionSpan → ℕ → Result (List ℕ × List ℕ) Stop → Option (Result RelocSection Stop)
early_named all end (Ok name) = early_of all (custom_kind_of name.0) end name.1
early_named all end (Err e) = None

abbrev pub early_in : List SectionSpan → List ℕ → SectionSpan → Option (Result RelocSection Stop)
early_in all bytes s = if s.id == 0 then early_named all (end_of s.payload) (name_at (end_of s.payload) (bytes_in bytes s.payload)) else None

-- The relocations of the code, by the section that was found.
abbrev pub entries_of : Option Early → List Reloc
entries_of None = []
entries_of (Some early) = early.relocs.entries

-- The section stands at its place, and is spelled so.
pub record StandsIn (all : List SectionSpan) (bytes : List ℕ) (early : Early) : Type 0 where
  pub within : early.place < length all
  pub span : SectionSpan
  pub here : drop early.place all ≡ span ∷ drop (early.place + 1) all
  pub read : early_in all bytes span ≡ Some (Ok early.relocs)
