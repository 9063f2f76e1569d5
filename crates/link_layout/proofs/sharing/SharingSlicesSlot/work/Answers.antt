use Rattle.std.proofs.Common.{arith}
use Rattle.link_layout.specs.Layout.{looked}
use Rattle.link_layout.specs.Parts.{sources_in}
use Rattle.link_layout.proofs.Divided.{made_here}
use Rattle.link_layout.proofs.sharing.SharingSlicesSlot.work.Goals as goal

pub returns : goal.returns
returns c =
    let s = c.args.self.now in
    made_here (looked s.layout) (sources_in s.sources.now s.ranges.now.cuts s.ranges.now.count c.args.worker) c.args.slots.now c.made.result (omega (arith, c.requires.1)) c.made.ensures
