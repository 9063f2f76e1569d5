use Rattle.std.proofs.Common.{◌≡◌, ◌++◌, drop}
use Rattle.run_rules.specs.Modules.{defined_functions}
use Rattle.run_rules.specs.Ops.{op_of}
use Rattle.run_modules.specs.Cells.{cell_seen}
use Rattle.run_modules.proofs.functions.add_defined.Given as goal

abbrev pub invariant-loop-place : goal.invariant-loop-place
invariant-loop-place l = l.to ++ defined_functions (op_of l.types (cell_seen l.cells)) l.types (drop l.place l.indexes) (drop l.place l.bodies) ≡ l.fn.to ++ defined_functions (op_of l.types (cell_seen l.cells)) l.types l.indexes l.bodies
