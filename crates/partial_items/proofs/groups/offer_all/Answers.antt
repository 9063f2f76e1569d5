use Rattle.std.proofs.Common.{sym, get_or, []}
use Rattle.partial_items.proofs.Turns.{offer_more}
use Rattle.partial_items.proofs.groups.offer_all.Goals as goal

pub loop-place-preserved : goal.loop-place-preserved
loop-place-preserved c =
    offer_more c.args.input c.args.column.now (get_or c.args.names.now.groups c.args.object []) c.loop-place.place c.in-Some.number _ _ (sym c.in-Some.ensures) c.offer.ensures c.loop-place.invariant
