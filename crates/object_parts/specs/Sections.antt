-- The parts of an object: what its sections add, one after another (Core 5.5.16, Linking.md).
use Rattle.std.specs.Prelude.{◌≡◌, ℕ, List, [], ◌∷◌, take, drop}
use Rattle.wasm_instr.specs.wl_base.declared.span.Span.{Span}
use Rattle.wasm_module.specs.wasm_sections.declared.section.SectionSpan.{SectionSpan}
use Rattle.body_windows.specs.reloc_section.declared.entry.Reloc.{Reloc}
use Rattle.object_parts.specs.declared.parts.Parts.{Parts}
use Rattle.object_parts.specs.Kinds.{kind_of}
use Rattle.object_parts.specs.Adding.{AddsKind}

-- The bytes of a span.
abbrev pub bytes_in : List ℕ → Span → List ℕ
bytes_in bytes span = take span.len (drop span.start bytes)

-- Each section adds its part, from the parts before it to those after it.
abbrev pub AddInTurn : List SectionSpan → List Reloc → List ℕ → Parts → List SectionSpan → Parts → Type 0
AddInTurn all relocs bytes parts [] after = parts ≡ after
AddInTurn all relocs bytes parts (s ∷ ss) after =
    (mid : Parts) × AddsKind all relocs (kind_of s.id) parts s.payload (bytes_in bytes s.payload) mid
    × AddInTurn all relocs bytes mid ss after
