use Rattle.std.proofs.Common.{◌≡◌, ◌++◌, take}
use Rattle.shared_keys.specs.Lists.{own_cells}
use Rattle.shared_keys.proofs.globals.push_own_cells.Given as goal

abbrev pub invariant-loop-cell : goal.invariant-loop-cell
invariant-loop-cell l = l.keys.items ≡ l.fn.keys.items ++ own_cells (take l.cell-index l.cells)
