use Rattle.link_keys.proofs.Steps.{filters_more}
use Rattle.shared_keys.specs.Lists.{is_own_function}
use Rattle.shared_keys.proofs.slots.own_functions_of.Goals as goal

pub loop-key-preserved : goal.loop-key-preserved
loop-key-preserved c = filters_more is_own_function c.args.keys.now c.loop-key.key-index _ c.loop-key-test.true _ _ c.loop-key.invariant c.in_ok-push_own.ensures
