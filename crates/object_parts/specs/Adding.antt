-- What one section adds to the parts of an object (Core 5.5, Linking.md): which payloads spell it,
-- and how it is read.
use Rattle.std.specs.Prelude.{◌≡◌, ℕ, zero, suc, ◌+◌, ◌==◌, ◌&&◌, Bool, true, false, List, [], ◌∷◌, ◌++◌, slice_get, Option, Some, None, is_some, Result, Ok, Err}
use Rattle.wasm_instr.specs.wl_base.declared.item.Item.{Item}
use Rattle.wasm_instr.specs.wl_base.declared.item.Item.TheVariants as items
use Rattle.wasm_instr.specs.wl_base.declared.span.Span.{Span}
use Rattle.wasm_instr.specs.wasm_grammar.declared.fault.Stop.{Stop}
use Rattle.wasm_instr.specs.wasm_grammar.declared.fault.Stop.TheVariants.{Broken, Foreign}
use Rattle.wasm_instr.specs.wasm_grammar.Grammar.{SpellsU32, SpellsName, SpellsVector}
use Rattle.wasm_instr.specs.wasm_grammar.Reading.{◌>>=◌, u32_at, name_at, vector_at, whole, ended}
use Rattle.wasm_instr.specs.wasm_types.declared.function.FuncType.{FuncType}
use Rattle.wasm_instr.specs.wasm_types.declared.import.Import.{Import}
use Rattle.wasm_instr.specs.wasm_types.Types.{SpellsFuncType, func_type_at}
use Rattle.wasm_module.specs.wasm_sections.declared.section.SectionSpan.{SectionSpan}
use Rattle.wasm_module.specs.declared.parts.Element.{Element}
use Rattle.wasm_module.specs.declared.parts.Export.{Export}
use Rattle.wasm_module.specs.Parts.{SpellsExport, SpellsElement}
use Rattle.wasm_module.specs.PartReading.{export_at, element_at}
use Rattle.linking_section.specs.declared.linking.Linking.{Linking}
use Rattle.linking_section.specs.Linking.{SpellsLinking}
use Rattle.linking_section.specs.Reading.{linking_at}
use Rattle.body_windows.specs.reloc_section.declared.entry.Reloc.{Reloc}
use Rattle.body_windows.specs.reloc_section.declared.section.RelocSection.{RelocSection}
use Rattle.body_windows.specs.reloc_section.Relocs.{SpellsRelocSection, relocs_at}
use Rattle.object_parts.specs.declared.kind.SectionKind.{SectionKind}
use Rattle.object_parts.specs.declared.kind.SectionKind.TheVariants as sections
use Rattle.object_parts.specs.declared.kind.CustomKind.{CustomKind}
use Rattle.object_parts.specs.declared.kind.CustomKind.TheVariants as customs
use Rattle.object_parts.specs.declared.parts.GlobalDef.{GlobalDef}
use Rattle.object_parts.specs.declared.parts.DataPart.{DataPart}
use Rattle.object_parts.specs.declared.parts.CodeBody.{CodeBody}
use Rattle.object_parts.specs.declared.parts.Parts.{Parts}
use Rattle.object_parts.specs.Kinds.{custom_kind_of}
use Rattle.object_parts.specs.Turns.{AreEntries, entries_at}
use Rattle.object_parts.specs.Imports.{SpellsObjectImport, seen_import, none_seen, object_import_at}
use Rattle.object_parts.specs.Placed.{SpellsGlobalDef, SpellsDataPart, stays, global_def_at, data_part_at}
use Rattle.object_parts.specs.Code.{SpellsCodeBody, left_behind, code_body_at}

-- ---- the parts

-- An object without a section.
abbrev pub no_parts : Parts
no_parts = record {
  types = [];
  imports = [];
  functions = [];
  globals = [];
  exports = [];
  elements = [];
  data_count = None;
  bodies = [];
  segments = [];
  linking = None;
  relocs = [];
  in_order = true;
}

-- A section `linking` more: the first is the one that counts.
abbrev pub with_linking : Parts → Option Linking → Linking → Parts
with_linking before None linking = record before { linking = Some linking }
with_linking before (Some first) linking = record before { in_order = false }

-- A section `reloc.` more. It stands behind the section `linking` (Linking.md, "Relocation
-- Sections").
abbrev pub with_relocs : Parts → RelocSection → Parts
with_relocs before r = record before { relocs = before.relocs ++ r ∷ []; in_order = before.in_order && is_some before.linking }

-- Whether the section at this place among all sections is there and has this id.
abbrev pub section_is : ℕ → Option SectionSpan → Bool
section_is id None = false
section_is id (Some s) = s.id == id

abbrev pub has_id : ℕ → List SectionSpan → ℕ → Bool
has_id id sections target = section_is id (slice_get sections target)

-- Where the payload of a section ends.
abbrev pub end_of : Span → ℕ
end_of span = span.start + span.len

-- The span with so many bytes more behind it.
abbrev pub longer : Span → ℕ → Span
longer span n = record { start = span.start; len = span.len + n }

-- ---- the grammar

-- Relocations for a custom section aren't looked at: their target alone is read.
abbrev pub SpellsRelocsFor : Bool → RelocSection → List ℕ → Type 0
SpellsRelocsFor true r bytes = (target : List ℕ) × (unread : List ℕ) × SpellsU32 r.target target × (r.entries ≡ []) × (bytes ≡ target ++ unread)
SpellsRelocsFor false r bytes = SpellsRelocSection r bytes

-- What a custom section adds, behind its name.
abbrev pub AddsCustom : List SectionSpan → CustomKind → Parts → List ℕ → Parts → Type 0
AddsCustom all customs.Linking parts bytes after = (linking : Linking) × SpellsLinking linking bytes × (after ≡ with_linking parts parts.linking linking)
AddsCustom all customs.Relocs parts bytes after = (r : RelocSection) × SpellsRelocsFor (has_id 0 all r.target) r bytes × (after ≡ with_relocs parts r)
AddsCustom all customs.Shared parts bytes after = ⊥
AddsCustom all customs.Other parts bytes after = after ≡ parts

-- What a section adds, by its kind, of all sections of the object and the relocations of its code:
-- the parts before it, its span and payload, and the parts after it.
abbrev pub AddsKind : List SectionSpan → List Reloc → SectionKind → Parts → Span → List ℕ → Parts → Type 0
AddsKind all relocs sections.Custom parts span payload after = (name : List ℕ) × (text : List ℕ) × (bytes : List ℕ) × SpellsName name text × (payload ≡ text ++ bytes) × AddsCustom all (custom_kind_of name) parts bytes after
AddsKind all relocs sections.Types parts span payload after = (types : List FuncType) × SpellsVector SpellsFuncType types payload × (after ≡ record parts { types = types })
AddsKind all relocs sections.Imports parts span payload after = (imports : List Import) × AreEntries SpellsObjectImport seen_import none_seen (end_of span) imports payload × (after ≡ record parts { imports = imports })
AddsKind all relocs sections.Functions parts span payload after = (functions : List ℕ) × SpellsVector SpellsU32 functions payload × (after ≡ record parts { functions = functions })
AddsKind all relocs sections.Tables parts span payload after = SpellsU32 0 payload × (after ≡ parts)
AddsKind all relocs sections.Memories parts span payload after = SpellsU32 0 payload × (after ≡ parts)
AddsKind all relocs sections.Globals parts span payload after = (globals : List GlobalDef) × AreEntries SpellsGlobalDef stays tt (end_of span) globals payload × (after ≡ record parts { globals = globals })
AddsKind all relocs sections.Exports parts span payload after = (exports : List Export) × SpellsVector SpellsExport exports payload × (after ≡ record parts { exports = exports })
AddsKind all relocs sections.Start parts span payload after = ⊥
AddsKind all relocs sections.Elements parts span payload after = (elements : List Element) × SpellsVector (SpellsElement false) elements payload × (after ≡ record parts { elements = elements })
AddsKind all relocs sections.DataCount parts span payload after = (count : ℕ) × SpellsU32 count payload × (after ≡ record parts { data_count = Some count })
AddsKind all relocs sections.Code parts span payload after = (bodies : List CodeBody) × AreEntries (SpellsCodeBody span.start) (left_behind span.start) relocs (end_of span) bodies payload × (after ≡ record parts { bodies = bodies })
AddsKind all relocs sections.Segments parts span payload after = (segments : List DataPart) × AreEntries SpellsDataPart stays tt (end_of span) segments payload × (after ≡ record parts { segments = segments })
AddsKind all relocs sections.Tags parts span payload after = ⊥

-- ---- reading

-- No entry: the first one is this item, whatever it is.
abbrev pub none_of : Item → ℕ → ℕ → List ℕ → Result (Unit {0}) Stop
none_of item zero end bytes = ended end tt bytes
none_of item (suc n) end [] = Err (Broken end)
none_of item (suc n) end (byte ∷ bytes) = Err (Foreign item)

unfoldable pub no_entries : Item → Parts → ℕ → List ℕ → Result Parts Stop
no_entries item parts end payload = do
  count ← u32_at end payload
  none ← none_of item count.0 end count.1
  Ok parts

abbrev pub relocs_behind : Bool → ℕ → ℕ → List ℕ → Result RelocSection Stop
relocs_behind true target end bytes = Ok (record { target = target; entries = [] })
relocs_behind false target end bytes = relocs_at end bytes

unfoldable pub relocs_for : List SectionSpan → ℕ → List ℕ → Result RelocSection Stop
relocs_for all end bytes = do
  target ← u32_at end bytes
  relocs_behind (has_id 0 all target.0) target.0 end bytes

unfoldable pub add_linking : Parts → ℕ → List ℕ → Result Parts Stop
add_linking parts end bytes = do
  linking ← linking_at end bytes
  Ok (with_linking parts parts.linking linking)

unfoldable pub add_relocs : List SectionSpan → Parts → ℕ → List ℕ → Result Parts Stop
add_relocs all parts end bytes = do
  r ← relocs_for all end bytes
  Ok (with_relocs parts r)

abbrev pub add_named : List SectionSpan → CustomKind → Parts → ℕ → List ℕ → Result Parts Stop
add_named all customs.Linking parts end bytes = add_linking parts end bytes
add_named all customs.Relocs parts end bytes = add_relocs all parts end bytes
add_named all customs.Shared parts end bytes = Err (Foreign items.SharedModule)
add_named all customs.Other parts end bytes = Ok parts

unfoldable pub add_custom : List SectionSpan → Parts → ℕ → List ℕ → Result Parts Stop
add_custom all parts end payload = do
  name ← name_at end payload
  add_named all (custom_kind_of name.0) parts end name.1

unfoldable pub add_types : Parts → ℕ → List ℕ → Result Parts Stop
add_types parts end payload = do
  types ← whole (vector_at func_type_at) end payload
  Ok (record parts { types = types })

unfoldable pub add_imports : Parts → ℕ → List ℕ → Result Parts Stop
add_imports parts end payload = do
  imports ← entries_at object_import_at seen_import none_seen end payload
  Ok (record parts { imports = imports })

unfoldable pub add_functions : Parts → ℕ → List ℕ → Result Parts Stop
add_functions parts end payload = do
  functions ← whole (vector_at u32_at) end payload
  Ok (record parts { functions = functions })

unfoldable pub add_globals : Parts → ℕ → List ℕ → Result Parts Stop
add_globals parts end payload = do
  globals ← entries_at global_def_at stays tt end payload
  Ok (record parts { globals = globals })

unfoldable pub add_exports : Parts → ℕ → List ℕ → Result Parts Stop
add_exports parts end payload = do
  exports ← whole (vector_at export_at) end payload
  Ok (record parts { exports = exports })

unfoldable pub add_elements : Parts → ℕ → List ℕ → Result Parts Stop
add_elements parts end payload = do
  elements ← whole (vector_at (element_at false)) end payload
  Ok (record parts { elements = elements })

unfoldable pub add_data_count : Parts → ℕ → List ℕ → Result Parts Stop
add_data_count parts end payload = do
  count ← whole u32_at end payload
  Ok (record parts { data_count = Some count })

unfoldable pub add_code : List Reloc → Parts → ℕ → ℕ → List ℕ → Result Parts Stop
add_code relocs parts start end payload = do
  bodies ← entries_at (code_body_at start) (left_behind start) relocs end payload
  Ok (record parts { bodies = bodies })

unfoldable pub add_segments : Parts → ℕ → List ℕ → Result Parts Stop
add_segments parts end payload = do
  segments ← entries_at data_part_at stays tt end payload
  Ok (record parts { segments = segments })

abbrev pub add_kind : List SectionSpan → List Reloc → SectionKind → Parts → Span → List ℕ → Result Parts Stop
add_kind all relocs sections.Custom parts span payload = add_custom all parts (end_of span) payload
add_kind all relocs sections.Types parts span payload = add_types parts (end_of span) payload
add_kind all relocs sections.Imports parts span payload = add_imports parts (end_of span) payload
add_kind all relocs sections.Functions parts span payload = add_functions parts (end_of span) payload
add_kind all relocs sections.Tables parts span payload = no_entries items.DefinedTable parts (end_of span) payload
add_kind all relocs sections.Memories parts span payload = no_entries items.DefinedMemory parts (end_of span) payload
add_kind all relocs sections.Globals parts span payload = add_globals parts (end_of span) payload
add_kind all relocs sections.Exports parts span payload = add_exports parts (end_of span) payload
add_kind all relocs sections.Start parts span payload = Err (Foreign items.StartSection)
add_kind all relocs sections.Elements parts span payload = add_elements parts (end_of span) payload
add_kind all relocs sections.DataCount parts span payload = add_data_count parts (end_of span) payload
add_kind all relocs sections.Code parts span payload = add_code relocs parts span.start (end_of span) payload
add_kind all relocs sections.Segments parts span payload = add_segments parts (end_of span) payload
add_kind all relocs sections.Tags parts span payload = Err (Foreign items.TagSection)
