use Rattle.std.proofs.Common.{take}
use Rattle.program_tables.specs.Types.{Keep, AreNumbered}
use Rattle.program_tables.proofs.types.numbers_for.Given as goal

abbrev pub invariant-loop-kind : goal.invariant-loop-kind
invariant-loop-kind l = record {
  keep : Keep l.initial.table l.table;
  numbers : AreNumbered l.table l.numbers (take l.kind-index l.these);
}
