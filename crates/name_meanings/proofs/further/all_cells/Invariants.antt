use Rattle.std.proofs.Common.{take}
use Rattle.std.specs.Prelude.{flat_map}
use Rattle.name_entries.specs.View.{rows_of}
use Rattle.name_meanings.specs.Known.{FoundBy}
use Rattle.name_meanings.specs.Further.{AreCellsOf}
use Rattle.name_meanings.proofs.further.all_cells.Given as goal

abbrev pub invariant-loop-object : goal.invariant-loop-object
invariant-loop-object l = FoundBy l.known l.found × AreCellsOf l.known l.initial.found.imports (flat_map (λ r. r) (take l.object (rows_of l.known.entries.objects.now))) l.cells l.found
