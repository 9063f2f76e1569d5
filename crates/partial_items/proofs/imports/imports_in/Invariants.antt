use Rattle.std.proofs.Common.{◌≡◌, ◌∷◌, filter_map, take}
use Rattle.partial_tree.specs.partial_rules.Partial.{memory_import}
use Rattle.partial_items.specs.Imports.{import_if}
use Rattle.partial_items.proofs.imports.imports_in.Given as goal

abbrev pub invariant-loop-found : goal.invariant-loop-found
invariant-loop-found l = (l.numbers ≡ l.initial.numbers) × (l.imports ≡ memory_import ∷ filter_map (import_if l.initial.numbers l.entries.objects.now l.table) (take l.found-index l.opens))
