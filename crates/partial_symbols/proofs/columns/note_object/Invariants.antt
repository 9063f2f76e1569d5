use Rattle.std.proofs.Common.{◌≡◌, map, fold, take}
use Rattle.std.specs.Prelude.{[], slice_index_or}
use Rattle.link_program.specs.name_entries.View.{rows_of}
use Rattle.partial_symbols.specs.Facts.{fact_of}
use Rattle.partial_symbols.specs.Columns.{noted}
use Rattle.partial_symbols.proofs.columns.note_object.Given as goal

abbrev pub invariant-loop-place : goal.invariant-loop-place
invariant-loop-place l = l.columns ≡ fold noted l.fn.columns (map (fact_of l.entries.names.now.names l.object) (take l.place (slice_index_or (rows_of l.entries.objects.now) l.object [])))
