use Rattle.std.proofs.Common.{◌≡◌, ◌++◌, drop}
use Rattle.debug_places.specs.Seen.{seen, place_meant, rows_by}
use Rattle.debug_places.proofs.rows.rows.Given as goal

abbrev pub invariant-loop-o : goal.invariant-loop-o
invariant-loop-o l = l.rows ++ rows_by (place_meant (seen l.view) l.asked) (drop l.o-index l.objects) l.left ≡ rows_by (place_meant (seen l.view) l.asked) l.objects l.symbols
