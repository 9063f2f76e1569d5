use Rattle.std.proofs.Common.{◌≡◌, drop, slice_index_or}
use Rattle.link_keys.specs.Firsts.{firsts_row}
use Rattle.std.proofs.Common.{[]}
use Rattle.sym_parts.proofs.least.note_object.Given as goal

abbrev pub invariant-loop-place : goal.invariant-loop-place
invariant-loop-place l = firsts_row l.object l.place l.firsts (drop l.place (slice_index_or l.names.symbols l.object [])) ≡ firsts_row l.object 0 l.fn.firsts (slice_index_or l.names.symbols l.object [])
