-- Windows stand where their types say, and what has to have a window has one (Linking.md,
-- "Relocation Sections").
use Rattle.std.specs.Prelude.{ℕ, ◌+◌, ◌-◌, ◌==◌, nat_le, Bool, true, false, not, ◌&&◌, ◌||◌, List, [], ◌∷◌, length, slice_get, slice_index_or, Option, Some, None, Result, Ok, Err, if◌then◌else◌}
use Rattle.std.specs.List.{list_all}
use Rattle.object_parts.specs.wl_base.declared.span.Span.{Span}
use Rattle.object_parts.specs.wasm_sections.declared.section.SectionSpan.{SectionSpan}
use Rattle.object_parts.specs.wasm_instr.declared.opcodes.TheConstants.{GLOBAL_GET}
use Rattle.object_parts.specs.reloc_section.declared.entry.Reloc.{Reloc}
use Rattle.object_parts.specs.reloc_section.declared.kinds.TheConstants.{TABLE_INDEX_I32, MEMORY_ADDR_I32, GLOBAL_INDEX_LEB}
use Rattle.object_parts.specs.reloc_section.declared.section.RelocSection.{RelocSection}
use Rattle.object_parts.specs.linking_section.declared.symbol.Symbol.{Symbol}
use Rattle.object_parts.specs.linking_section.declared.symbol.SymbolKind.{SymbolKind}
use Rattle.object_parts.specs.linking_section.declared.symbol.SymbolKind.TheVariants.{Function, Datum, GlobalVar, Section, Table}
use Rattle.object_parts.specs.body_windows.declared.operand.Operand.{Operand}
use Rattle.object_parts.specs.body_windows.declared.fault.Mismatch.{Mismatch}
use Rattle.object_parts.specs.body_windows.declared.fault.Mismatch.TheVariants as mismatches
use Rattle.object_parts.specs.declared.parts.DataPart.{DataPart}
use Rattle.object_parts.specs.declared.parts.Parts.{Parts}
use Rattle.object_parts.specs.Adding.{has_id}
use Rattle.object_parts.specs.Code.{before, behind, end_in, base_in}

-- The relocations for the section with this id: those of the first section `reloc.` that is for it.
abbrev pub relocs_for : ℕ → List SectionSpan → List RelocSection → List Reloc
relocs_for id all [] = []
relocs_for id all (r ∷ rs) = if has_id id all r.target then r.entries else relocs_for id all rs

-- Where the payload of the section with this id begins.
abbrev pub start_of : ℕ → List SectionSpan → ℕ
start_of id [] = 0
start_of id (s ∷ ss) = if s.id == id then s.payload.start else start_of id ss

-- ---- code

-- Each relocation fills an immediate of its type's kind, and none overlaps another: what a body's
-- windows tell (body_windows, Windows.antt) is no fault of a relocation.
abbrev pub is_placed : Result (List Operand) Mismatch → Bool
is_placed (Ok operands) = true
is_placed (Err (mismatches.Overlap place)) = false
is_placed (Err (mismatches.OffImmediate place)) = false
is_placed (Err (mismatches.BareIndex place)) = true

-- Each immediate that needs a window has one: what the windows tell is no fault of an immediate.
abbrev pub is_covered : Result (List Operand) Mismatch → Bool
is_covered (Ok operands) = true
is_covered (Err (mismatches.Overlap place)) = true
is_covered (Err (mismatches.OffImmediate place)) = true
is_covered (Err (mismatches.BareIndex place)) = false

abbrev pub is_global_kind : SymbolKind → Bool
is_global_kind Function = false
is_global_kind Datum = false
is_global_kind GlobalVar = true
is_global_kind Section = false
is_global_kind Table = false

abbrev pub is_global_symbol : Option Symbol → Bool
is_global_symbol None = false
is_global_symbol (Some s) = is_global_kind s.kind

-- The byte before a place: the opcode of an instruction whose one immediate begins there (Core 5.4).
abbrev pub byte_before : List ℕ → ℕ → ℕ
byte_before bytes place = slice_index_or bytes (place - 1) 0

-- A global alone is set. A GLOBAL_INDEX_LEB that names a function or a datum is for its address, which
-- is read: the instruction is `global.get`.
abbrev pub is_set_or_read : List ℕ → ℕ → List Symbol → Reloc → Bool
is_set_or_read bytes start symbols r =
    not (r.kind == GLOBAL_INDEX_LEB) || is_global_symbol (slice_get symbols r.index)
    || (byte_before bytes (start + r.offset) == GLOBAL_GET)

abbrev pub code_windows_stand : List SectionSpan → List ℕ → Parts → List Symbol → Bool
code_windows_stand all bytes parts symbols =
    list_all (λ b. is_placed b.windows) parts.bodies
    && (not (length parts.bodies == 0) || (length (relocs_for 10 all parts.relocs) == 0))
    && list_all (is_set_or_read bytes (start_of 10 all) symbols) (relocs_for 10 all parts.relocs)

-- ---- data

-- The window is of a type that stands in data, and lies in the segment's bytes.
abbrev pub in_segment : ℕ → Span → Reloc → Bool
in_segment start span r =
    ((r.kind == TABLE_INDEX_I32) || (r.kind == MEMORY_ADDR_I32)) && nat_le (base_in start span) r.offset && nat_le (r.offset + 4) (end_in start span)

-- A relocation belongs to the first segment that ends behind it.
abbrev pub data_windows_stand : ℕ → List Reloc → List DataPart → Bool
data_windows_stand start relocs [] = length relocs == 0
data_windows_stand start relocs (d ∷ ds) =
    list_all (in_segment start d.span) (before (end_in start d.span) relocs)
    && data_windows_stand start (behind (end_in start d.span) relocs) ds

-- ---- both

abbrev pub windows_stand : List SectionSpan → List ℕ → Parts → List Symbol → Bool
windows_stand all bytes parts symbols =
    code_windows_stand all bytes parts symbols
    && data_windows_stand (start_of 11 all) (relocs_for 11 all parts.relocs) parts.segments

abbrev pub indexes_are_covered : Parts → Bool
indexes_are_covered parts = list_all (λ b. is_covered b.windows) parts.bodies
