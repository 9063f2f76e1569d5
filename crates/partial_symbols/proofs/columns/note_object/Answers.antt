use Rattle.std.proofs.Common.{arith}
use Rattle.partial_symbols.specs.Facts.{fact_of}
use Rattle.partial_symbols.specs.Columns.{noted}
use Rattle.partial_symbols.proofs.Folds.{fold_more}
use Rattle.partial_symbols.proofs.columns.note_object.Goals as goal

pub loop-place-preserved : goal.loop-place-preserved
loop-place-preserved c =
    fold_more noted (fact_of c.args.entries.names.now.names c.args.object) _ _ c.loop-place.place (omega arith) _ _ c.note_at.ensures c.loop-place.invariant
