use Rattle.program_tables.proofs.Placing.{PlacesUpto}
use Rattle.program_tables.proofs.objects.places_by_input.Given as goal

abbrev pub invariant-loop-object : goal.invariant-loop-object
invariant-loop-object l = PlacesUpto l.entries.objects.now l.places l.object
