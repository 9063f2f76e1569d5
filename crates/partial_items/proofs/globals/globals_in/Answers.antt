use Rattle.partial_bytes.specs.Told.{global_told}
use Rattle.partial_items.specs.Items.{global_for}
use Rattle.partial_items.proofs.Listed.{seen_more}
use Rattle.partial_items.proofs.globals.globals_in.Goals as goal

pub loop-part-preserved : goal.loop-part-preserved
loop-part-preserved c =
    seen_more global_told (global_for c.args.files.now c.args.objects.now c.args.tables.now) c.args.globals.now c.loop-part.part-index _ c.loop-part-test.true _ _ _ c.in_ok-put.ensures c.global_for.ensures c.loop-part.invariant
