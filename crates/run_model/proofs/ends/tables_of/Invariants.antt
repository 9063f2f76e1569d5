use Rattle.std.proofs.Common.{◌≡◌, ◌++◌, drop, map}
use Rattle.run_model.specs.Table.{ends_in}
use Rattle.run_model.proofs.ends.tables_of.Given as goal

abbrev pub invariant-loop-function : goal.invariant-loop-function
invariant-loop-function l = l.tables ++ map ends_in (drop l.function-index l.functions) ≡ map ends_in l.functions
