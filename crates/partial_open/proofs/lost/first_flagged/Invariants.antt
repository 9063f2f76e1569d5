use Rattle.std.proofs.Common.{◌≡◌, drop}
use Rattle.std.specs.Prelude.{[], slice_index_or}
use Rattle.link_program.specs.name_entries.View.{rows_of}
use Rattle.partial_open.specs.Lost.{first_flagged}
use Rattle.partial_open.proofs.lost.first_flagged.Given as goal

abbrev pub invariant-loop-place : goal.invariant-loop-place
invariant-loop-place l = first_flagged l.flags l.place (drop l.place (slice_index_or (rows_of l.entries.objects.now) l.object [])) ≡ first_flagged l.flags 0 (slice_index_or (rows_of l.entries.objects.now) l.object [])
