use Rattle.std.proofs.Common.{◌≡◌, map, drop}
use Rattle.partial_tree.specs.link_program.wl_base.Choice.{first_some}
use Rattle.partial_items.specs.Imports.{table_at, first_table}
use Rattle.partial_items.proofs.imports.first_table.Given as goal

abbrev pub invariant-loop-at : goal.invariant-loop-at
invariant-loop-at l = first_some (map (table_at l.entries.objects.now) (drop l.at-index l.symbols)) ≡ first_table l.entries.objects.now l.symbols
