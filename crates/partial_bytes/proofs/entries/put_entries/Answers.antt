use Rattle.std.proofs.Common.{arith}
use Rattle.partial_bytes.proofs.Fitting.{entry_room}
use Rattle.partial_bytes.proofs.entries.put_entries.Goals as goal

pub put_entry-at-requires-clause-room : goal.put_entry-at-requires-clause-room
put_entry-at-requires-clause-room c =
    let room = entry_room c.args.from c.args.part.now.numbers.now c.args.part.now.named.now c.loop-x.x-index _ c.loop-x-test.true c.reloc_of.result c.reloc_of.ensures in
    let so_far = c.loop-x.invariant.1 in
    (omega (arith, room, so_far.place, so_far.len, c.requires.room.0), omega (arith, so_far.len, c.requires.room.1))
