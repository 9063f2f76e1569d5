use Rattle.std.proofs.Common.{◌≡◌, ◌+◌, ◌∷◌, Some, length, arith, rules}
use Rattle.std.specs.Vec.Iter.{into_iter_items}
use Rattle.link_layout.proofs.Divided.{begun, joined_more, joined_all}
use Rattle.link_layout.proofs.sharing.joined.Goals as goal

pub loop-worker-init : goal.loop-worker-init
loop-worker-init c = λ k sources cuts count many whole rising made.
    let same : into_iter_items c.into_iter-left.result ≡ c.args.slots.items = search rules in
    begun k sources cuts count c.args.slots.items (into_iter_items c.into_iter-left.result) c.new-pieces.result same c.new-pieces.ensures made

pub loop-worker-preserved : goal.loop-worker-preserved
loop-worker-preserved c = λ k sources cuts count many whole rising made.
    let is : into_iter_items c.loop-worker.left ≡ Some c.in-Some-Some.patches ∷ into_iter_items c.next.new.self = search rules in
    joined_more k sources cuts count c.loop-worker._worker (into_iter_items c.loop-worker.left) (into_iter_items c.next.new.self) c.in-Some-Some.patches c.loop-worker.pieces
    c.push.new.self rising is c.in_ok-push.ensures.ok (c.loop-worker.invariant k sources cuts count many whole rising made)

pub returns : goal.returns
returns c = λ k sources cuts count many whole rising made.
    let end : c.loop-worker._worker ≡ length cuts + 1 = omega (arith, many) in
    joined_all k sources cuts count c.loop-worker._worker (into_iter_items c.loop-worker.left) c.loop-worker.pieces end whole (c.loop-worker.invariant k sources cuts count many whole rising made)
