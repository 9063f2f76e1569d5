use Rattle.std.proofs.Common.{◌≡◌, ◌++◌, drop, map, Some}
use Rattle.run_modules.proofs.cells.cells_of.Given as goal

abbrev pub invariant-loop-value : goal.invariant-loop-value
invariant-loop-value l = l.cells ++ map Some (drop l.value-index l.firsts) ≡ map Some l.firsts
