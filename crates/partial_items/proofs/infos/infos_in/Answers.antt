use Rattle.partial_bytes.specs.Told.{info_told}
use Rattle.partial_items.specs.Items.{info_for}
use Rattle.partial_items.proofs.Listed.{each_more}
use Rattle.partial_items.proofs.infos.infos_in.Goals as goal

pub loop-part-preserved : goal.loop-part-preserved
loop-part-preserved c =
    each_more info_told (info_for c.args.objects.now c.args.tables.now) c.args.segments.now c.loop-part.part-index _ c.loop-part-test.true _ _ _ c.in_ok-push.ensures.ok c.info_for.ensures c.loop-part.invariant
