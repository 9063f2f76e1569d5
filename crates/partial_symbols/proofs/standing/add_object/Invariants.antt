use Rattle.std.proofs.Common.{◌≡◌, map, fold, take}
use Rattle.std.specs.Prelude.{[], slice_index_or}
use Rattle.link_program.specs.name_entries.View.{rows_of}
use Rattle.partial_symbols.specs.Facts.{fact_of}
use Rattle.partial_symbols.specs.Standing.{stood}
use Rattle.partial_symbols.proofs.standing.add_object.Given as goal

abbrev pub invariant-loop-place : goal.invariant-loop-place
invariant-loop-place l = l.standing ≡ fold (stood l.sight) l.fn.standing (map (fact_of l.entries.names.now.names l.object) (take l.place (slice_index_or (rows_of l.entries.objects.now) l.object [])))
