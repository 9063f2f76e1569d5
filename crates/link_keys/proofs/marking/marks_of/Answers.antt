use Rattle.std.proofs.Common.{◌≡◌}
use Rattle.link_keys.proofs.Joining.{all_are_joined}
use Rattle.link_keys.proofs.marking.marks_of.Goals as goal

pub returns : goal.returns
returns g c =
    let r = c.in_ok-ranges.ranges in
    all_are_joined c.args.tables.now c.args.imports c.args.names c.args.live.now r.cuts r.count c.in_ok-ranges.ensures.ranges.rising c.in_ok-ranges.ensures.count
    c.in_ok-slots.slots.items c.in_ok-marks.marks c.in_ok-slots.ensures c.in_ok-marks.ensures
