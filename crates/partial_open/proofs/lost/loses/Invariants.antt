use Rattle.std.proofs.Common.{◌≡◌, drop}
use Rattle.std.specs.Prelude.{[], slice_index_or}
use Rattle.std.specs.List.{list_any}
use Rattle.link_program.specs.name_entries.View.{rows_of}
use Rattle.partial_open.specs.Lost.{is_lost}
use Rattle.partial_open.proofs.lost.loses.Given as goal

abbrev pub invariant-loop-place : goal.invariant-loop-place
invariant-loop-place l = list_any is_lost (drop l.place (slice_index_or (rows_of l.entries.objects.now) l.object [])) ≡ list_any is_lost (slice_index_or (rows_of l.entries.objects.now) l.object [])
