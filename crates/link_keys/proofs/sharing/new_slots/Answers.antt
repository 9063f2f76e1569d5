use Rattle.std.proofs.Common.{None}
use Rattle.link_keys.proofs.Slots.{slot_more}
use Rattle.link_keys.proofs.sharing.new_slots.Goals as goal

pub loop-worker-preserved : goal.loop-worker-preserved
loop-worker-preserved c = slot_more None c.loop-worker._worker c.loop-worker.slots.items c.push.new.self.items c.loop-worker.invariant c.in_ok-push.ensures.items
