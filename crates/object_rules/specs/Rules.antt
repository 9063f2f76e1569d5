-- The rules by which the sections of an object agree, and the first that is broken.
use Rattle.std.specs.Prelude.{ℕ, not, List, Option, Some, None, if◌then◌else◌}
use Rattle.object_parts.specs.wasm_sections.declared.section.SectionSpan.{SectionSpan}
use Rattle.object_parts.specs.linking_section.declared.linking.Linking.{Linking}
use Rattle.object_parts.specs.declared.parts.Parts.{Parts}
use Rattle.object_rules.specs.Spaces.{counts_of}
use Rattle.object_rules.specs.Indexes.{are_counted, are_in_range}
use Rattle.object_rules.specs.Symbols.{symbols_stand, names_differ}
use Rattle.object_rules.specs.Metadata.{infos_stand, inits_stand, groups_stand}
use Rattle.object_rules.specs.Relocs.{targets_stand, entries_stand}
use Rattle.object_rules.specs.Windows.{windows_stand, indexes_are_covered}

-- The rules:
--
-- 1: there is one section `linking`, and each section `reloc.` stands behind it.
-- 2: what is counted twice is counted alike.
-- 3: indexes of imports, functions, exports, element and data segments are in range.
-- 4: symbols name what is there.
-- 5: names that other objects see differ.
-- 6: segment infos are of segments, and alignments below 2^32.
-- 7: init functions take and give nothing.
-- 8: groups have names of their own and members that are there, each once.
-- 9: relocations are for the code, the data or a custom section, their windows in it and apart.
-- 10: relocations name what their types name.
-- 11: windows stand on immediates of their types' kinds, or in a segment's bytes.
-- 12: what names an index in code has a window.

-- The first of 9 to 12 that is broken.
unfoldable pub reloc_rule : List SectionSpan → List ℕ → Parts → Linking → Option ℕ
reloc_rule all bytes parts l =
    if not (targets_stand all parts.relocs) then Some 9
    else (if not (entries_stand (counts_of all parts) parts.imports l.symbols parts.relocs) then Some 10
    else (if not (windows_stand all bytes parts l.symbols) then Some 11
    else (if not (indexes_are_covered parts) then Some 12
    else None)))

-- The first of 5 to 12.
unfoldable pub linking_rule : List SectionSpan → List ℕ → Parts → Linking → Option ℕ
linking_rule all bytes parts l =
    if not (names_differ parts.imports l.symbols) then Some 5
    else (if not (infos_stand (counts_of all parts) l.segments) then Some 6
    else (if not (inits_stand parts l.symbols l.inits) then Some 7
    else (if not (groups_stand (counts_of all parts) l.groups) then Some 8
    else reloc_rule all bytes parts l)))

-- The first of all, where there is linking metadata.
unfoldable pub rule_of : List SectionSpan → List ℕ → Parts → Linking → Option ℕ
rule_of all bytes parts l =
    if not parts.in_order then Some 1
    else (if not (are_counted parts) then Some 2
    else (if not (are_in_range (counts_of all parts) parts) then Some 3
    else (if not (symbols_stand (counts_of all parts) parts l.symbols) then Some 4
    else linking_rule all bytes parts l)))

abbrev pub rule_with : List SectionSpan → List ℕ → Parts → Option Linking → Option ℕ
rule_with all bytes parts None = Some 1
rule_with all bytes parts (Some l) = rule_of all bytes parts l

-- The first rule that an object breaks: its sections, its bytes, and the parts of its sections.
abbrev pub broken_rule : List SectionSpan → List ℕ → Parts → Option ℕ
broken_rule all bytes parts = rule_with all bytes parts parts.linking
