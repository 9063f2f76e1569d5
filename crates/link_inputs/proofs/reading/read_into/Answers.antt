use Rattle.std.proofs.Common.{◌≡◌, length, rules}
use Rattle.link_inputs.proofs.Divided.{room, all_read}
use Rattle.link_inputs.proofs.reading.read_into.Goals as goal

pub each_slice-requires-clause-items : goal.each_slice-requires-clause-items
each_slice-requires-clause-items g c κs within =
    let r = c.args.reading in
    room r.files.now r.objects.now r.parts r.some c.args.slots.now c.requires

pub returns : goal.returns
returns g c =
    let r = c.args.reading in
    let same : length c.each_slice.new.items ≡ length c.args.slots.now = search rules in
    all_read r.files.now r.objects.now r.parts r.some c.args.slots.now c.each_slice.new.items c.requires same c.each_slice.ensures
