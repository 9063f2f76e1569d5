use Rattle.std.proofs.Common.{◌≡◌, map, slice_get, Some, take}
use Rattle.name_rules.specs.object_file.linking_section.declared.symbol.SymbolKind.TheVariants.{Function, GlobalVar, Table}
use Rattle.name_rules.specs.object_file.object_rules.Spaces.{imports_of}
use Rattle.name_entries.proofs.table.places_of.Given as goal

abbrev pub invariant-loop-at : goal.invariant-loop-at
invariant-loop-at l = record {
  functions : map (slice_get l.imports) l.places.functions ≡ map (λ i. Some i) (imports_of Function (take l.at l.imports));
  tables : map (slice_get l.imports) l.places.tables ≡ map (λ i. Some i) (imports_of Table (take l.at l.imports));
  globals : map (slice_get l.imports) l.places.globals ≡ map (λ i. Some i) (imports_of GlobalVar (take l.at l.imports));
}
