-- Which rules of objects the parts of a program's relocatable object keep.
use Rattle.std.specs.Prelude.{◌≡◌, ℕ, ◌≤◌, ◌^◌, true, List, length, map, All, None}
use Rattle.std.specs.List.{list_all}
use Rattle.object_rules.specs.linking_section.declared.linking.Linking.{Linking}
use Rattle.object_rules.specs.wasm_sections.declared.section.SectionSpan.{SectionSpan}
use Rattle.object_rules.specs.object_parts.declared.parts.Parts.{Parts}
use Rattle.object_rules.specs.Spaces.{counts_of}
use Rattle.object_rules.specs.Indexes.{are_counted, are_in_range}
use Rattle.object_rules.specs.Symbols.{symbols_stand, names_differ}
use Rattle.object_rules.specs.Metadata.{infos_stand, inits_stand, groups_stand}
use Rattle.object_rules.specs.Relocs.{targets_stand, entries_stand}
use Rattle.object_rules.specs.Windows.{relocs_for, start_of, is_set_or_read, indexes_are_covered}
use Rattle.object_rules.specs.Rules.{broken_rule}
use Rattle.name_rules.specs.object_file.declared.object.Object.{Object}
use Rattle.partial_rules.specs.Partial.{open_local, relocatable}
use Rattle.partial_rules.specs.Relocatable.{Windowed, relocatable_bytes}
use Rattle.partial_rules.specs.WellFormed.{Coded}
use Rattle.partial_rules.specs.Sections.{sections_told}
use Rattle.partial_rules.specs.ReadAs.{linking_for, parts_told}
use Rattle.partial_parts_laws.specs.Linked.{Linked, program}
use Rattle.partial_parts_laws.specs.ReadBack.{AreLinked}
use Rattle.partial_parts_laws.specs.SymbolsBack.{AreNamed}

module _ (all : List SectionSpan) (bytes : List ℕ) (parts : Parts) (l : Linking) where
  -- What is counted, indexes, symbols and their names, segment infos, and what names an index in code: the rules 2 to 6, and 12.
  pub record FirstRules : Type 0 where
    pub counted : are_counted parts ≡ true
    pub in_range : are_in_range (counts_of all parts) parts ≡ true
    pub symbols : symbols_stand (counts_of all parts) parts l.symbols ≡ true
    pub names : names_differ parts.imports l.symbols ≡ true
    pub infos : infos_stand (counts_of all parts) l.segments ≡ true
    pub covered : indexes_are_covered parts ≡ true

  -- Init functions, groups, and what relocations are for and name: the rules 7 to 10.
  pub record LaterRules : Type 0 where
    pub inits : inits_stand parts l.symbols l.inits ≡ true
    pub groups : groups_stand (counts_of all parts) l.groups ≡ true
    pub targets : targets_stand all parts.relocs ≡ true
    pub entries : entries_stand (counts_of all parts) parts.imports l.symbols parts.relocs ≡ true

  -- What isn't told of rule 11: a window for the address of a function or datum is in what reads it.
  abbrev pub AddressesRead : Type 0
  AddressesRead = list_all (is_set_or_read bytes (start_of 10 all) l.symbols) (relocs_for 10 all parts.relocs) ≡ true

-- All rules but that are kept, so where that is, none is broken.
abbrev pub RulesAreKept : Type 0
RulesAreKept =
    (l : Linked) (objects : List Object) → AreLinked l objects → All AreNamed objects → open_local (program l objects) ≡ None
    → (codes : List Coded) → (relocatable (program l objects)).bodies ≡ map {A = Coded} {B = Windowed} (λ c. c.windowed) codes
    → length (relocatable_bytes (relocatable (program l objects))) ≤ 2 ^ 30
    → FirstRules (sections_told (relocatable (program l objects))) (relocatable_bytes (relocatable (program l objects))) (parts_told (relocatable (program l objects)) codes) (linking_for (relocatable (program l objects)))
    × LaterRules (sections_told (relocatable (program l objects))) (relocatable_bytes (relocatable (program l objects))) (parts_told (relocatable (program l objects)) codes) (linking_for (relocatable (program l objects)))
    × (AddressesRead (sections_told (relocatable (program l objects))) (relocatable_bytes (relocatable (program l objects))) (parts_told (relocatable (program l objects)) codes) (linking_for (relocatable (program l objects)))
    → broken_rule (sections_told (relocatable (program l objects))) (relocatable_bytes (relocatable (program l objects))) (parts_told (relocatable (program l objects)) codes) ≡ None)
