use Rattle.std.proofs.Common.{take}
use Rattle.program_tables.specs.Types.{Keep, AreNumbered}
use Rattle.program_tables.proofs.types.fill_row.Given as goal

abbrev pub invariant-loop-at : goal.invariant-loop-at
invariant-loop-at l = record {
  keep : Keep l.initial.table l.table;
  row : AreNumbered l.table l.row (take l.at l.from.types);
}
