use Rattle.std.proofs.Common.{List, [], ◌++◌, take, get_or}
use Rattle.name_entries.specs.name_rules.Entries.{InputSymbol, ImportKey}
use Rattle.name_entries.specs.View.{rows_of}
use Rattle.name_meanings.specs.Known.{FoundBy}
use Rattle.name_meanings.specs.Further.{AreCellsOf}
use Rattle.name_meanings.proofs.further.add_cells.Given as goal

abbrev pub invariant-loop-place : goal.invariant-loop-place
invariant-loop-place l = FoundBy l.known l.found
    × ((seen : List InputSymbol) (base : List ImportKey) → AreCellsOf l.known base seen l.initial.cells l.initial.found
    → AreCellsOf l.known base (seen ++ take l.place (get_or (rows_of l.known.entries.objects.now) l.object [])) l.cells l.found)
