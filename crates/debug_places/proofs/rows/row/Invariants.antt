use Rattle.std.proofs.Common.{◌≡◌, ◌++◌, drop}
use Rattle.debug_places.specs.Seen.{seen, place_meant, row_by}
use Rattle.debug_places.proofs.rows.row.Given as goal

abbrev pub invariant-loop-symbol : goal.invariant-loop-symbol
invariant-loop-symbol l = l.row ++ row_by (place_meant (seen l.view) l.asked) (drop l.symbol-index l.symbols) ≡ row_by (place_meant (seen l.view) l.asked) l.symbols
