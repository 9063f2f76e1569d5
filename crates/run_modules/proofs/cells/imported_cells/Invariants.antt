use Rattle.std.proofs.Common.{◌≡◌, ◌++◌, drop, length}
use Rattle.run_rules.specs.Modules.{imported_globals}
use Rattle.run_modules.specs.Cells.{cells_from}
use Rattle.run_modules.proofs.cells.imported_cells.Given as goal

abbrev pub invariant-loop-import : goal.invariant-loop-import
invariant-loop-import l = l.cells ++ cells_from (imported_globals l.imports) (length l.cells) (imported_globals (drop l.import-index l.imports)) ≡ cells_from (imported_globals l.imports) 0 (imported_globals l.imports)
