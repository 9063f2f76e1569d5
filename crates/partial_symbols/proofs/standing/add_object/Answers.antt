use Rattle.std.proofs.Common.{arith}
use Rattle.partial_symbols.specs.Facts.{fact_of}
use Rattle.partial_symbols.specs.Standing.{stood}
use Rattle.partial_symbols.proofs.Folds.{fold_more}
use Rattle.partial_symbols.proofs.standing.add_object.Goals as goal

pub loop-place-preserved : goal.loop-place-preserved
loop-place-preserved c =
    fold_more (stood c.args.sight.now) (fact_of c.args.entries.names.now.names c.args.object) _ _ c.loop-place.place (omega arith) _ _ c.in_ok-add_at.ensures c.loop-place.invariant
