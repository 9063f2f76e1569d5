use Rattle.partial_items.specs.Items.{given, part_given}
use Rattle.partial_items.proofs.Listed.{each_more}
use Rattle.partial_items.proofs.parts.parts_in.Goals as goal

pub loop-part-preserved : goal.loop-part-preserved
loop-part-preserved c =
    each_more given (part_given c.args.files.now c.args.tables.now c.args.numbers.now) c.args.parts.now c.loop-part.part-index _ c.loop-part-test.true _ _ _ c.in_ok-push.ensures.ok c.part_with.ensures
    c.loop-part.invariant
