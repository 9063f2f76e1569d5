use Rattle.sym_parts.specs.Keys.{own_function}
use Rattle.link_keys.proofs.Steps.{items_more}
use Rattle.sym_parts.proofs.listing.push_own_functions.Goals as goal

pub loop-part-preserved : goal.loop-part-preserved
loop-part-preserved c = items_more (own_function c.args.linkers) c.args.parts.now c.loop-part.part-index _ c.loop-part-test.true _ _ _ c.loop-part.invariant c.in_ok-push_own_function.ensures
