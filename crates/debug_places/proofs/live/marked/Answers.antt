use Rattle.debug_places.proofs.Found.{marked_more, all_marked}
use Rattle.std.proofs.Common.{rules}
use Rattle.debug_places.proofs.live.marked.Goals as goal

pub loop-number-preserved : goal.loop-number-preserved
loop-number-preserved c =
    marked_more c.args.live.now c.loop-number.number-index _ c.loop-number-test.true c.loop-number.table.items _ c.in_ok-mark.ensures c.loop-number.invariant

pub returns : goal.returns
returns c = all_marked c.args.live.now c.loop-number.number-index (search rules) c.loop-number.table.items c.loop-number.invariant
