use Rattle.std.proofs.Common.{◌≡◌, ◌&&◌, map, fold, take, drop, length, slice_get, slice_index_or, None}
use Rattle.link_keys.specs.Firsts.{firsts_row, firsts_rows}
use Rattle.std.proofs.Common.{[], replicate}
use Rattle.link_keys.proofs.firsts.firsts_of.Given as goal

abbrev pub invariant-loop-object : goal.invariant-loop-object
invariant-loop-object l = firsts_rows l.object l.firsts.items (drop l.object l.names.symbols) ≡ firsts_rows 0 (replicate (length l.names.names) None) l.names.symbols
