use Rattle.std.proofs.Common.{take, get_or, [], map}
use Rattle.name_entries.specs.View.{rows_of}
use Rattle.name_meanings.specs.Known.{IsRow, meant}
use Rattle.name_meanings.proofs.resolving.fill_row.Given as goal

abbrev pub invariant-loop-place : goal.invariant-loop-place
invariant-loop-place l = IsRow l.known l.row (map (meant l.known) (take l.place (get_or (rows_of l.known.entries.objects.now) l.object []))) l.initial.found.imports l.found
