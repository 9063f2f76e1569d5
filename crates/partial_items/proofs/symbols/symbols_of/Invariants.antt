use Rattle.std.proofs.Common.{◌≡◌, map, filter_map, take}
use Rattle.partial_tree.specs.Rows.{row_seen}
use Rattle.partial_bytes.specs.Told.{symbol_told}
use Rattle.partial_items.proofs.symbols.symbols_of.Given as goal

abbrev pub invariant-loop-row : goal.invariant-loop-row
invariant-loop-row l = map symbol_told l.symbols ≡ filter_map (row_seen l.entries.objects.now) (take l.row-index l.rows)
