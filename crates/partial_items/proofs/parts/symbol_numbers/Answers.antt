use Rattle.partial_items.proofs.Bodies.{numbers_more}
use Rattle.partial_items.proofs.parts.symbol_numbers.Goals as goal

pub loop-symbol-preserved : goal.loop-symbol-preserved
loop-symbol-preserved c =
    numbers_more c.args.standing.now c.as_slice-symbols.result.now c.args.tables.now.symbols c.loop-symbol.symbol _ _ _
    c.as_slice-symbols.ensures c.in_ok-push.ensures.ok c.number_for.ensures c.loop-symbol.invariant
