use Rattle.std.proofs.Common.{◌≡◌, ◌++◌, drop, map}
use Rattle.wasm_instr.specs.Placeless.{instrs_of}
use Rattle.run_rules.specs.Ops.{op_of}
use Rattle.run_modules.specs.Cells.{cell_seen}
use Rattle.run_modules.proofs.ops.ops_of.Given as goal

abbrev pub invariant-loop-placed : goal.invariant-loop-placed
invariant-loop-placed l = l.ops ++ map (op_of l.types (cell_seen l.cells)) (instrs_of (drop l.placed-index l.code)) ≡ map (op_of l.types (cell_seen l.cells)) (instrs_of l.code)
