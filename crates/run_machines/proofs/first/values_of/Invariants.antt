use Rattle.std.proofs.Common.{◌≡◌, ◌++◌, drop, map}
use Rattle.run_machines.specs.Sym.{sym_value}
use Rattle.run_machines.proofs.first.values_of.Given as goal

abbrev pub invariant-loop-cell : goal.invariant-loop-cell
invariant-loop-cell l = l.values ++ map (sym_value l.session) (drop l.cell-index l.cells) ≡ map (sym_value l.session) l.cells
