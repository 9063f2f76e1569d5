use Rattle.link_layout.specs.Layout.{looked}
use Rattle.link_layout.proofs.Divided.{all_joined}
use Rattle.link_layout.proofs.sharing.shared_patches.Goals as goal

pub returns : goal.returns
returns g c =
    let r = c.in_ok-ranges.ranges in
    all_joined (looked c.args.layout) c.args.sources.now r.cuts r.count c.workers.result c.in_ok-slots.slots.items c.joined.result c.workers.ensures c.in_ok-ranges.ensures.count
    c.in_ok-ranges.ensures.ranges.rising c.in_ok-slots.ensures c.joined.ensures
