use Rattle.std.proofs.Common.{◌+◌, arith}
use Rattle.wl_rows.specs.Ranges.{first_at}
use Rattle.name_entries.proofs.Along.{made_here}
use Rattle.name_entries.proofs.making.MakingSlicesSlot.work.Goals as goal

pub returns : goal.returns
returns c =
    let s = c.args.self.now in
    let first = first_at s.ranges.now.cuts s.ranges.now.count in
    made_here s.objects.now s.names.now.symbols (first c.args.worker) (first (c.args.worker + 1)) c.args.slots.now c.made.result (omega (arith, c.requires.1)) c.made.ensures
