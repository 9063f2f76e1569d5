-- The rules of objects that a program's relocatable object keeps, and what is left of them.
use Rattle.std.proofs.Common.{◌≡◌, ℕ, ◌≤◌, ◌^◌, Bool, true, false, not, List, length, map, refl, sym, ap, ◌∙◌}
use Rattle.std.specs.Prelude.{Option, Some, None, All, if◌then◌else◌}
use Rattle.std.specs.List.{list_all}
use Rattle.object_rules.specs.Indexes.{are_counted, are_in_range}
use Rattle.object_rules.specs.Spaces.{counts_of}
use Rattle.object_rules.specs.Symbols.{symbols_stand, names_differ}
use Rattle.object_rules.specs.Metadata.{infos_stand, inits_stand, groups_stand}
use Rattle.object_rules.specs.Relocs.{targets_stand, entries_stand}
use Rattle.object_rules.specs.Windows.{start_of, is_set_or_read, windows_stand, indexes_are_covered}
use Rattle.object_rules.specs.Rules.{reloc_rule, linking_rule, rule_of, broken_rule}
use Rattle.object_rules.specs.linking_section.declared.linking.Linking.{Linking}
use Rattle.object_rules.specs.object_parts.declared.parts.Parts.{Parts}
use Rattle.name_rules.specs.object_file.declared.object.Object.{Object}
use Rattle.link_rules.specs.Program.{Program}
use Rattle.partial_rules.specs.Relocatable.{Relocatable, Windowed, relocatable_bytes}
use Rattle.partial_rules.specs.Partial.{open_local, relocatable}
use Rattle.partial_rules.specs.WellFormed.{Coded}
use Rattle.partial_rules.specs.Sections.{sections_told}
use Rattle.partial_rules.specs.ReadAs.{linking_for, parts_told}
use Rattle.partial_parts_laws.specs.Linked.{Linked, program}
use Rattle.partial_parts_laws.specs.ReadBack.{AreLinked}
use Rattle.partial_parts_laws.specs.SymbolsBack.{AreNamed}
use Rattle.partial_parts_laws.specs.RulesKept.{FirstRules, LaterRules, AddressesRead, RulesAreKept}
use Rattle.partial_parts_laws.proofs.RulesKept.{first_rules}
use Rattle.partial_parts_laws.proofs.RelocRules.{entries_there, inits_there}
use Rattle.partial_parts_laws.proofs.SymbolsRead.{few_segments}
use Rattle.partial_parts_laws.proofs.GroupRules.{groups_there}
use Rattle.partial_parts_laws.proofs.WindowRules.{targets_there, windows_there, code_relocs, bodies_apart, segments_apart, segments_data}

no_true : false ≡ true → ⊥
no_true e = absurd cc

-- one rule after another
next_rule : (b : Bool) (n : ℕ) (rest : Option ℕ) → b ≡ true → rest ≡ None → (if not b then Some n else rest) ≡ None
next_rule true n rest e none = none
next_rule false n rest e none = absurd (no_true e)

module _ (l : Linked) (objects : List Object) (is : AreLinked l objects) (names : All AreNamed objects) (local : open_local (program l objects) ≡ None) (codes : List Coded)
    (bodies : (relocatable (program l objects)).bodies ≡ map {A = Coded} {B = Windowed} (λ c. c.windowed) codes) (short : length (relocatable_bytes (relocatable (program l objects))) ≤ 2 ^ 30) where
  abbrev p : Program
  p = program l objects

  abbrev r : Relocatable
  r = relocatable p

  abbrev parts : Parts
  parts = parts_told r codes

  abbrev linking : Linking
  linking = linking_for r

  first : FirstRules (sections_told r) (relocatable_bytes r) parts linking
  first = first_rules l objects is names codes bodies

  later : LaterRules (sections_told r) (relocatable_bytes r) parts linking
  unfolding relocatable
  later = record {
    inits = inits_there l objects is names codes bodies local;
    groups = groups_there l objects is names codes bodies (few_segments p short);
    targets = targets_there r (bodies_apart l objects is) (segments_apart l objects is);
    entries = entries_there l objects is names codes bodies local;
  }

  windows : AddressesRead (sections_told r) (relocatable_bytes r) parts linking → windows_stand (sections_told r) (relocatable_bytes r) parts linking.symbols ≡ true
  windows reads =
      windows_there r codes linking.symbols bodies (segments_apart l objects is) (segments_data l objects is)
      (ap (list_all (is_set_or_read (relocatable_bytes r) (start_of 10 (sections_told r)) linking.symbols)) (sym (code_relocs r)) ∙ reads)

  none_broken : AddressesRead (sections_told r) (relocatable_bytes r) parts linking → broken_rule (sections_told r) (relocatable_bytes r) parts ≡ None
  unfolding rule_of linking_rule reloc_rule
  none_broken reads =
      next_rule (are_counted parts) 2 _ first.counted
      (next_rule (are_in_range (counts_of (sections_told r) parts) parts) 3 _ first.in_range
      (next_rule (symbols_stand (counts_of (sections_told r) parts) parts linking.symbols) 4 _ first.symbols
      (next_rule (names_differ parts.imports linking.symbols) 5 _ first.names
      (next_rule (infos_stand (counts_of (sections_told r) parts) linking.segments) 6 _ first.infos
      (next_rule (inits_stand parts linking.symbols linking.inits) 7 _ later.inits
      (next_rule (groups_stand (counts_of (sections_told r) parts) linking.groups) 8 _ later.groups
      (next_rule (targets_stand (sections_told r) parts.relocs) 9 _ later.targets
      (next_rule (entries_stand (counts_of (sections_told r) parts) parts.imports linking.symbols parts.relocs) 10 _ later.entries
      (next_rule (windows_stand (sections_told r) (relocatable_bytes r) parts linking.symbols) 11 _ (windows reads)
      (next_rule (indexes_are_covered parts) 12 _ first.covered refl))))))))))

pub rules_are_kept : RulesAreKept
rules_are_kept l objects is names local codes bodies short =
    (first l objects is names local codes bodies short, later l objects is names local codes bodies short, none_broken l objects is names local codes bodies short)
