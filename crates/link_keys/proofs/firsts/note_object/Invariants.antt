use Rattle.std.proofs.Common.{◌≡◌, ◌&&◌, map, fold, take, drop, length, slice_get, slice_index_or, None}
use Rattle.link_keys.specs.Firsts.{firsts_row, firsts_rows}
use Rattle.std.proofs.Common.{[], replicate}
use Rattle.link_keys.proofs.firsts.note_object.Given as goal

abbrev pub invariant-loop-place : goal.invariant-loop-place
invariant-loop-place l = firsts_row l.object l.place l.firsts (drop l.place (slice_index_or l.names.symbols l.object [])) ≡ firsts_row l.object 0 l.fn.firsts (slice_index_or l.names.symbols l.object [])
