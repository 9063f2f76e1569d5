-- Relocations and the sections that they are for (Linking.md, "Relocation Sections").
use Rattle.std.specs.Prelude.{ℕ, ◌+◌, ◌==◌, nat_lt, nat_le, nat_eq, Bool, true, false, ◌&&◌, ◌||◌, List, [], ◌∷◌, map, slice_get, codes, Option, Some, None, if◌then◌else◌}
use Rattle.std.specs.List.{list_all}
use Rattle.std.specs.Str.{bytes_eq}
use Rattle.object_parts.specs.wasm_types.declared.import.Import.{Import}
use Rattle.object_parts.specs.wasm_sections.declared.section.SectionSpan.{SectionSpan}
use Rattle.object_parts.specs.reloc_section.declared.entry.Reloc.{Reloc}
use Rattle.object_parts.specs.reloc_section.declared.kinds.TheConstants.{FUNCTION_INDEX_LEB, TABLE_INDEX_SLEB, TABLE_INDEX_I32, MEMORY_ADDR_LEB, MEMORY_ADDR_SLEB, MEMORY_ADDR_I32, TYPE_INDEX_LEB, GLOBAL_INDEX_LEB, FUNCTION_OFFSET_I32, SECTION_OFFSET_I32, MEMORY_ADDR_REL_SLEB, TABLE_INDEX_REL_SLEB, GLOBAL_INDEX_I32, TABLE_NUMBER_LEB}
use Rattle.object_parts.specs.reloc_section.declared.section.RelocSection.{RelocSection}
use Rattle.object_parts.specs.linking_section.declared.symbol.Symbol.{Symbol}
use Rattle.object_parts.specs.linking_section.declared.symbol.SymbolKind.{SymbolKind}
use Rattle.object_parts.specs.linking_section.declared.symbol.SymbolKind.TheVariants.{Function, Datum, GlobalVar, Section, Table}
use Rattle.object_parts.specs.Adding.{has_id}
use Rattle.object_rules.specs.declared.spaces.Counts.{Counts}
use Rattle.object_rules.specs.Differ.{all_differ}
use Rattle.object_rules.specs.Symbols.{name_of}

-- ---- targets and windows

-- The target is the code section (10), the data section (11) or a custom section (0).
abbrev pub target_stands : List SectionSpan → RelocSection → Bool
target_stands all r = has_id 10 all r.target || has_id 11 all r.target || has_id 0 all r.target

-- From a place of the payload on the windows, so many bytes wide, rise, don't overlap, and lie in
-- its length.
abbrev pub lie_apart : ℕ → ℕ → ℕ → List Reloc → Bool
lie_apart width len from [] = true
lie_apart width len from (r ∷ rs) = nat_le from r.offset && nat_le (r.offset + width) len && lie_apart width len (r.offset + width) rs

abbrev pub payload_len : Option SectionSpan → ℕ
payload_len None = 0
payload_len (Some s) = s.payload.len

-- A window has five bytes in code and four in data.
abbrev pub width_in : List SectionSpan → ℕ → ℕ
width_in all target = if has_id 10 all target then 5 else 4

abbrev pub windows_lie : List SectionSpan → RelocSection → Bool
windows_lie all r = lie_apart (width_in all r.target) (payload_len (slice_get all r.target)) 0 r.entries

abbrev pub targets_stand : List SectionSpan → List RelocSection → Bool
targets_stand all relocs =
    list_all (target_stands all) relocs
    && all_differ nat_eq (map (λ r. r.target) relocs)
    && list_all (windows_lie all) relocs

-- ---- what is named

-- The kinds of symbols that a relocation of this type names (Linking.md, "Relocation Sections").
abbrev pub may_name : ℕ → SymbolKind → Bool
may_name kind Function =
    (kind == FUNCTION_INDEX_LEB) || (kind == TABLE_INDEX_SLEB) || (kind == TABLE_INDEX_I32)
    || (kind == GLOBAL_INDEX_LEB) || (kind == FUNCTION_OFFSET_I32) || (kind == TABLE_INDEX_REL_SLEB)
may_name kind Datum =
    (kind == MEMORY_ADDR_LEB) || (kind == MEMORY_ADDR_SLEB) || (kind == MEMORY_ADDR_I32)
    || (kind == GLOBAL_INDEX_LEB) || (kind == MEMORY_ADDR_REL_SLEB)
may_name kind GlobalVar = (kind == GLOBAL_INDEX_LEB) || (kind == GLOBAL_INDEX_I32)
may_name kind Section = kind == SECTION_OFFSET_I32
may_name kind Table = kind == TABLE_NUMBER_LEB

abbrev pub is_table_name : Option (List ℕ) → Bool
is_table_name None = false
is_table_name (Some name) = bytes_eq name (codes "__indirect_function_table")

-- The one table is that of functions.
abbrev pub names_symbol : List Import → ℕ → Option Symbol → Bool
names_symbol imports kind None = false
names_symbol imports kind (Some s) = may_name kind s.kind && (if kind == TABLE_NUMBER_LEB then is_table_name (name_of imports s) else true)

-- TYPE_INDEX_LEB names a type, each other type of relocation a symbol.
abbrev pub entry_stands : Counts → List Import → List Symbol → Reloc → Bool
entry_stands counts imports symbols r =
    if r.kind == TYPE_INDEX_LEB then nat_lt r.index counts.types
    else names_symbol imports r.kind (slice_get symbols r.index)

abbrev pub entries_stand : Counts → List Import → List Symbol → List RelocSection → Bool
entries_stand counts imports symbols relocs = list_all (λ r. list_all (entry_stands counts imports symbols) r.entries) relocs
