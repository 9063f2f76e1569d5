use Rattle.link_keys.specs.Lists.{datum_listed}
use Rattle.link_keys.proofs.Steps.{items_more, items_folded, filters_more, folds_more}
use Rattle.link_keys.proofs.lists.push_data.Goals as goal

pub loop-winner-preserved : goal.loop-winner-preserved
loop-winner-preserved c = items_more datum_listed c.args.exports.now c.loop-winner.winner-index _ c.loop-winner-test.true _ _ _ c.loop-winner.invariant c.in_ok-push_datum.ensures
