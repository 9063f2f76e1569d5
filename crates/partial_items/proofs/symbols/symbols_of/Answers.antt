use Rattle.partial_tree.specs.Rows.{row_seen}
use Rattle.partial_bytes.specs.Told.{symbol_told}
use Rattle.partial_items.proofs.Listed.{seen_more}
use Rattle.partial_items.proofs.symbols.symbols_of.Goals as goal

pub loop-row-preserved : goal.loop-row-preserved
loop-row-preserved c =
    seen_more symbol_told (row_seen c.args.entries.objects.now) c.args.rows.now c.loop-row.row-index _ c.loop-row-test.true _ _ _ c.in_ok-put.ensures c.symbol_of.ensures c.loop-row.invariant
