use Rattle.std.proofs.Common.{◌≡◌, ◌≤◌, ◌+◌, length, drop}
use Rattle.link_program.specs.linking_section.declared.symbol.SymbolKind.TheVariants.{Function}
use Rattle.link_program.specs.object_rules.Spaces.{imports_of}
use Rattle.found_numbers.proofs.counting.imported_functions.Given as goal

abbrev pub invariant-loop-at : goal.invariant-loop-at
invariant-loop-at l = (l.count ≤ l.at) × (l.count + length (imports_of Function (drop l.at l.imports)) ≡ length (imports_of Function l.imports))
