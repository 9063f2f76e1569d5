use Rattle.std.proofs.Common.{length, arith, take, length-append}
use Rattle.std.specs.List.{flat_map}
use Rattle.leb_codec.specs.Shortest.{u32}
use Rattle.image_emit.proofs.Room.{item_room, as_many}
use Rattle.partial_bytes.proofs.item.put_vector.Goals as goal

pub overflow_cast-items : goal.overflow_cast-items
overflow_cast-items g c =
    let many = as_many g.T.Item.spelled c.args.items.now g.met.T.Item.some in
    let parts = length-append (u32 (length c.args.items.now)) (flat_map g.T.Item.spelled c.args.items.now) in
    omega (arith, many, parts, c.requires.0, c.requires.1)

pub put-at-requires : goal.put-at-requires
put-at-requires g c =
    let index = c.loop-item.item-index in
    let room = item_room g.T.Item.spelled c.args.items.now index c.item-item.result c.loop-item-test.true c.item-item.is in
    let all = length-append (u32 (length c.args.items.now)) (flat_map g.T.Item.spelled c.args.items.now) in
    let first = length-append (u32 (length c.args.items.now)) (flat_map g.T.Item.spelled (take index c.args.items.now)) in
    let so_far = c.loop-item.invariant in
    (omega (arith, room, all, first, so_far.place, so_far.len, c.requires.0), omega (arith, so_far.len, c.requires.1))
