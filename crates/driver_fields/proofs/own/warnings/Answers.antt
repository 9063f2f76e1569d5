use Rattle.driver_fields.proofs.Told.{one_more}
use Rattle.driver_fields.proofs.own.warnings.Goals as goal

pub loop-item-preserved : goal.loop-item-preserved
loop-item-preserved c =
    one_more c.args.items.now c.loop-item.item-index c.item-item.result c.loop-item.lines c.add_line.new.lines c.warning.result _
    c.loop-item-test.true c.item-item.is c.warning.ensures c.in_ok-add_line.ensures c.loop-item.invariant
