use Rattle.std.proofs.Common.{[]}
use Rattle.partial_items.specs.Items.{export_for}
use Rattle.partial_items.proofs.Listed.{found_more}
use Rattle.partial_items.proofs.exports.exports_in.Goals as goal

pub loop-part-preserved : goal.loop-part-preserved
loop-part-preserved c =
    found_more (export_for c.args.objects.now c.args.tables.now c.args.kept.now c.args.imported) c.args.functions.now c.loop-part.part-index _ c.loop-part-test.true [] _ _ _ c.in_ok-put.ensures c.in_ok-found.ensures c.loop-part.invariant
