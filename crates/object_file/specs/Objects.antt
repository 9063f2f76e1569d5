-- An object as it is linked, made of what its sections tell (Linking.md).
use Rattle.std.specs.Prelude.{ℕ, ◌+◌, ◌-◌, ◌==◌, ◌&&◌, List, [], ◌∷◌, map, Option, Some, None, Result, Ok, Err, if◌then◌else◌}
use Rattle.object_rules.specs.wasm_types.declared.import.Import.{Import}
use Rattle.object_rules.specs.wasm_module.declared.parts.Export.{Export}
use Rattle.object_rules.specs.wasm_sections.declared.section.SectionSpan.{SectionSpan}
use Rattle.object_rules.specs.reloc_section.declared.entry.Reloc.{Reloc}
use Rattle.object_rules.specs.linking_section.declared.symbol.Symbol.{Symbol}
use Rattle.object_rules.specs.linking_section.declared.segment.SegmentInfo.{SegmentInfo}
use Rattle.object_rules.specs.linking_section.declared.linking.Linking.{Linking}
use Rattle.object_rules.specs.body_windows.declared.operand.Operand.{Operand}
use Rattle.object_rules.specs.body_windows.declared.fault.Mismatch.{Mismatch}
use Rattle.object_rules.specs.object_parts.declared.parts.CodeBody.{CodeBody}
use Rattle.object_rules.specs.object_parts.declared.parts.DataPart.{DataPart}
use Rattle.object_rules.specs.object_parts.declared.parts.Parts.{Parts}
use Rattle.object_rules.specs.object_parts.Code.{before, behind, end_in, base_in}
use Rattle.object_rules.specs.Spaces.{counts_of}
use Rattle.object_rules.specs.Symbols.{name_of}
use Rattle.object_rules.specs.Windows.{relocs_for, start_of}
use Rattle.object_file.specs.declared.object.Object.{Object}
use Rattle.object_columns.specs.declared.functions.FunctionDef.{FunctionDef}
use Rattle.object_columns.specs.declared.segments.SegmentDef.{SegmentDef}

-- ---- functions

-- The name of the last export of a function, by the function's index.
abbrev pub last_name : ℕ → List Export → Option (List ℕ) → Option (List ℕ)
last_name index [] name = name
last_name index (e ∷ es) name = last_name index es (if (e.kind == 0) && (e.index == index) then Some e.name else name)

abbrev pub export_name : List Export → ℕ → Option (List ℕ)
export_name exports index = last_name index exports None

abbrev pub operands_of : Result (List Operand) Mismatch → List Operand
operands_of (Ok operands) = operands
operands_of (Err e) = []

-- The defined functions from an index on: each type with its body.
abbrev pub functions_from : List Export → ℕ → List ℕ → List CodeBody → List FunctionDef
functions_from exports index [] bodies = []
functions_from exports index (t ∷ ts) [] = []
functions_from exports index (t ∷ ts) (b ∷ bs) =
    record { type_index = t; span = b.span; operands = operands_of b.windows; export_name = export_name exports index }
    ∷ functions_from exports (index + 1) ts bs

-- ---- data segments

-- A segment without an info has no name, alignment 1 and no flags.
abbrev pub no_info : SegmentInfo
no_info = record { name = []; align = 0; flags = 0 }

abbrev pub first_info : List SegmentInfo → SegmentInfo
first_info [] = no_info
first_info (i ∷ is) = i

abbrev pub other_infos : List SegmentInfo → List SegmentInfo
other_infos [] = []
other_infos (i ∷ is) = is

-- A window whose offset counts from the segment's first byte.
abbrev pub window_from : ℕ → Reloc → Reloc
window_from base r = record r { offset = r.offset - base }

-- The segments with the relocations that are left: each belongs to the first segment that ends
-- behind it. Offsets of relocations count from the payload's start.
abbrev pub segments_from : ℕ → List Reloc → List SegmentInfo → List DataPart → List SegmentDef
segments_from start relocs infos [] = []
segments_from start relocs infos (d ∷ ds) =
    record { span = d.span; info = first_info infos; windows = map (window_from (base_in start d.span)) (before (end_in start d.span) relocs) }
    ∷ segments_from start (behind (end_in start d.span) relocs) (other_infos infos) ds

-- ---- the object

-- A symbol with its name: its own, or that of the import that it names.
abbrev pub with_name : List Import → Symbol → Symbol
with_name imports s = record s { name = name_of imports s }

-- The metadata of the section `linking`. An object without one is none.
abbrev pub linking_of : Option Linking → Linking
linking_of None = record { segments = []; inits = []; groups = []; symbols = [] }
linking_of (Some l) = l

abbrev pub object_with : ℕ → List SectionSpan → Parts → Linking → Object
object_with input all parts l = record {
  input = input;
  types = parts.types;
  imports = parts.imports;
  functions = functions_from parts.exports (counts_of all parts).imported_functions parts.functions parts.bodies;
  globals = parts.globals;
  segments = segments_from (start_of 11 all) (relocs_for 11 all parts.relocs) l.segments parts.segments;
  symbols = map (with_name parts.imports) l.symbols;
  inits = l.inits;
  groups = l.groups;
}

-- The object, as an input of this number, of its sections and their parts.
unfoldable pub object_from : ℕ → List SectionSpan → Parts → Object
object_from input all parts = object_with input all parts (linking_of parts.linking)
