use Rattle.sym_parts.specs.Data.{cell_seen}
use Rattle.sym_parts.proofs.Gives.{gives_more}
use Rattle.sym_parts.proofs.cells.first_cells.Goals as goal

pub loop-key-preserved : goal.loop-key-preserved
loop-key-preserved c =
    gives_more (cell_seen c.args.tables.now c.args.resolution.now.imports c.args.top) c.args.keys.now c.loop-key.key-index _ c.loop-key-test.true c.loop-key.cells c.push.new.self c.in_ok-cell.cell
    c.loop-key.invariant c.in_ok-cell.ensures c.in_ok-push.ensures.ok
