use Rattle.std.proofs.Common.{◌≡◌, length, drop, sym, subst, rules}
use Rattle.link_inputs.specs.Reading.{AreRead}
use Rattle.link_inputs.proofs.Divided.{whole_back}
use Rattle.link_inputs.proofs.reading.read_slots.Goals as goal

pub returns : goal.returns
returns g c =
    let new = c.read_into.new.slots in
    let long : c.in_ok-slots.slots.len ≡ length new = search rules in
    subst (AreRead c.args.files.now c.args.objects.now) (sym (whole_back c.in_ok-slots.slots.len new (drop (length new) c.in_ok-slots.slots.items) long)) c.read_into.ensures
