use Rattle.std.proofs.Common.{◌≡◌, take, map, Some}
use Rattle.std.specs.Prelude.{slice_get}
use Rattle.link_program.specs.object_file.declared.object.Object.{Object}
use Rattle.program_tables.specs.Types.{Keep}
use Rattle.program_tables.proofs.types.numbers_of.Given as goal

abbrev pub invariant-loop-from : goal.invariant-loop-from
invariant-loop-from l = record {
  keep : Keep l.initial.table l.table;
  rows : map (map (slice_get l.table)) l.rows ≡ map (λ (o : Object). map Some o.types) (take l.from-index l.objects);
}
