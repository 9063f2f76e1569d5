use Rattle.shared_keys.proofs.Put.{cells_more}
use Rattle.shared_keys.proofs.globals.push_own_cells.Goals as goal

pub loop-cell-preserved : goal.loop-cell-preserved
loop-cell-preserved c = cells_more c.args.cells.now c.loop-cell.cell-index _ c.loop-cell-test.true _ _ _ c.loop-cell.invariant c.in_ok-push_own_cell.ensures
