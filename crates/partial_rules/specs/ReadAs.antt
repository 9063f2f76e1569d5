-- The parts that are read of the bytes of a relocatable object.
use Rattle.std.specs.Prelude.{ℕ, List, Option, None, if◌then◌else◌, map, [], ◌∷◌, flat_map, length, ◌+◌, ◌++◌, Ok, true, Some}
use Rattle.linking_section.specs.declared.symbol.Symbol.{Symbol}
use Rattle.linking_section.specs.declared.symbol.SymbolKind.{SymbolKind}
use Rattle.linking_section.specs.declared.symbol.SymbolKind.TheVariants.{Function, Datum, GlobalVar, Section, Table}
use Rattle.linking_section.specs.Flags.{is_named}
use Rattle.linking_section.specs.declared.linking.Linking.{Linking}
use Rattle.object_parts.specs.declared.parts.DataPart.{DataPart}
use Rattle.object_parts.specs.Placed.{span_before, span_between}
use Rattle.object_parts.specs.declared.parts.GlobalDef.{GlobalDef}
use Rattle.object_parts.specs.declared.parts.CodeBody.{CodeBody}
use Rattle.reloc_section.specs.declared.entry.Reloc.{Reloc}
use Rattle.reloc_section.specs.declared.section.RelocSection.{RelocSection}
use Rattle.object_parts.specs.declared.parts.Parts.{Parts}
use Rattle.image_emit.specs.Bytes.{vector}
use Rattle.partial_rules.specs.Relocatable.{Relocatable, Windowed, SpelledGlobal, body, spelled_global, relocatable_bytes, segment, code_place, data_place, section_relocs, body_head, segment_head}
use Rattle.partial_rules.specs.WellFormed.{Coded}
use Rattle.partial_rules.specs.Sections.{globals_end, code_start, data_end}

-- The name that stands with a symbol: not that of a function, global or table that is UNDEFINED without EXPLICIT_NAME.
abbrev pub shown_name : SymbolKind → Symbol → Option (List ℕ)
shown_name Function s = if is_named s.flags then s.name else None
shown_name Datum s = s.name
shown_name GlobalVar s = if is_named s.flags then s.name else None
shown_name Section s = None
shown_name Table s = if is_named s.flags then s.name else None

-- The symbol as the section has it.
abbrev pub shown : Symbol → Symbol
shown s = record { kind = s.kind; flags = s.flags; name = shown_name s.kind s; index = s.index; offset = s.offset; size = s.size }

-- What the section `linking` says.
abbrev pub linking_for : Relocatable → Linking
linking_for r = record { segments = r.infos; inits = r.inits; groups = r.groups; symbols = map shown r.symbols }

-- What is told of each by the bytes behind it.
abbrev pub told_from : {A B : Type 0} → (List ℕ → B → A) → (B → List ℕ) → List B → List A
told_from tell item [] = []
told_from tell item (y ∷ ys) = tell (flat_map item ys) y ∷ told_from tell item ys

abbrev pub data_part : ℕ → List ℕ → Windowed → DataPart
data_part end rest w = record { memory = None; span = span_before end (length w.bytes) rest }

abbrev pub global_def : ℕ → List ℕ → SpelledGlobal → GlobalDef
global_def end rest g = record { kind = g.kind; value = g.value; span = span_between end (g.bytes ++ rest) rest }

abbrev pub coded_bytes : Coded → List ℕ
coded_bytes c = body c.windowed

abbrev pub bodies_told : ℕ → List Coded → List CodeBody
bodies_told end [] = []
bodies_told end (c ∷ cs) =
    record { span = span_before end (length c.windowed.bytes) (flat_map coded_bytes cs); windows = Ok c.operands } ∷ bodies_told end cs

-- The relocations of a section, where there are some.
abbrev pub rels : ℕ → List Reloc → List RelocSection
rels target [] = []
rels target (x ∷ xs) = record { target = target; entries = x ∷ xs } ∷ []

-- The parts, with these globals, bodies, segments and relocations.
abbrev pub read_parts : Relocatable → List GlobalDef → List CodeBody → List DataPart → List RelocSection → Parts
read_parts r gs bs ds rs = record {
  types = r.types;
  imports = r.imports;
  functions = r.functions;
  globals = gs;
  exports = r.exports;
  elements = [];
  data_count = None;
  bodies = bs;
  segments = ds;
  linking = Some (linking_for r);
  relocs = rs;
  in_order = true;
}

-- ---- each where it stands

abbrev pub globals_told : Relocatable → List GlobalDef
globals_told r = told_from (global_def (globals_end (length (relocatable_bytes r)) r)) spelled_global r.globals

abbrev pub codes_told : Relocatable → List Coded → List CodeBody
codes_told r cs = bodies_told (code_start (length (relocatable_bytes r)) r + length (vector body r.bodies)) cs

abbrev pub data_told : Relocatable → List DataPart
data_told r = told_from (data_part (data_end (length (relocatable_bytes r)) r)) segment r.segments

-- All parts.
abbrev pub parts_told : Relocatable → List Coded → Parts
parts_told r cs =
    read_parts r (globals_told r) (codes_told r cs) (data_told r) (rels (code_place r) (section_relocs body_head r.bodies) ++ rels (data_place r) (section_relocs segment_head r.segments))
