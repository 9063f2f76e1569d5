use Rattle.link_keys.specs.Lists.{is_taken_code}
use Rattle.link_keys.proofs.Steps.{items_more, items_folded, filters_more, folds_more}
use Rattle.link_keys.proofs.lists.slots_listed.Goals as goal

pub loop-key-preserved : goal.loop-key-preserved
loop-key-preserved c = filters_more (is_taken_code c.args.taken.now.keys) c.args.functions.now c.loop-key.key-index _ c.loop-key-test.true _ _ c.loop-key.invariant c.in_ok-push_taken.ensures
