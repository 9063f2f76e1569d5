use Rattle.std.proofs.Common.{◌≡◌, ◌+◌, ◌∷◌, [], List, Option, Some, length, arith, rules}
use Rattle.std.specs.Vec.Iter.{into_iter_items}
use Rattle.name_entries.specs.declared.pieces.Piece.{Piece}
use Rattle.name_entries.proofs.Along.{begun, joined_more, joined_all}
use Rattle.name_entries.proofs.making.joined.Goals as goal

pub loop-worker-init : goal.loop-worker-init
loop-worker-init c = λ objects names cuts count many made.
    let is : c.args.slots.items ≡ Some c.in-Some-Some.first ∷ into_iter_items c.next.new.self = search rules in
    begun objects names cuts count c.args.slots.items (into_iter_items c.next.new.self) c.in-Some-Some.first is made

pub loop-worker-preserved : goal.loop-worker-preserved
loop-worker-preserved c = λ objects names cuts count many made.
    let is : into_iter_items c.loop-worker.left ≡ Some c.in-Some-Some-next.piece ∷ into_iter_items c.next-in-loop-worker.new.self = search rules in
    joined_more objects names cuts count c.loop-worker._worker (into_iter_items c.loop-worker.left) (into_iter_items c.next-in-loop-worker.new.self) c.in-Some-Some-next.piece c.loop-worker.all
    c.add.new.self is c.in_ok-add.ensures.parts c.in_ok-add.ensures.rows (c.loop-worker.invariant objects names cuts count many made)

pub returns : goal.returns
returns c = λ objects names cuts count many made.
    let end : c.loop-worker._worker ≡ length cuts + 1 = omega (arith, many) in
    joined_all objects names cuts count c.loop-worker._worker (into_iter_items c.loop-worker.left) c.loop-worker.all end (c.loop-worker.invariant objects names cuts count many made)
