use Rattle.std.proofs.Common.{◌≡◌, drop, take, length}
use Rattle.std.specs.Prelude.{flat_map}
use Rattle.link_marks.specs.link_program.name_entries.View.{rows_of}
use Rattle.lost_ctors.specs.Inits.{lost_from, objects_lost}
use Rattle.lost_ctors.proofs.inits.some_are_lost.Given as goal

abbrev pub invariant-loop-object : goal.invariant-loop-object
invariant-loop-object l = record {
  rest : lost_from l.tables l.entries.objects.now l.alive l.object l.first (drop l.object l.entries.objects.now) ≡ objects_lost l.tables l.entries.objects.now l.alive;
  first : l.first ≡ length (flat_map (λ row. row) (take l.object (rows_of l.entries.objects.now)));
}
