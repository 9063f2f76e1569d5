use Rattle.std.proofs.Common.{arith}
use Rattle.program_tables.proofs.Joined.{slot_more}
use Rattle.program_tables.proofs.making.new_pieces.Goals as goal

pub loop-worker-preserved : goal.loop-worker-preserved
loop-worker-preserved c =
    slot_more c.args.first c.loop-worker._worker c.loop-worker.pieces.items c.push-in-loop-worker.new.self.items c.new.result (omega arith) c.loop-worker.invariant c.in_ok-push-2.ensures.items
    c.new.ensures.parts c.new.ensures.named c.new.ensures.whole
