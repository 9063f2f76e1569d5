use Rattle.std.proofs.Common.{◌∙◌}
use Rattle.link_keys.specs.link_program.index_layout.Numbers.{number_by}
use Rattle.link_keys.specs.link_program.Keys.{same_function_key}
use Rattle.link_keys.proofs.Steps.{maps_more}
use Rattle.link_numbers.proofs.giving.takers_of.Goals as goal

pub loop-key-preserved : goal.loop-key-preserved
loop-key-preserved c =
    c.in_ok-push.ensures.items
    ∙ maps_more (number_by same_function_key c.args.functions.now) c.args.slots.now c.loop-key.key-index _ c.loop-key-test.true _ _ c.loop-key.invariant
    c.of_or_first.ensures
