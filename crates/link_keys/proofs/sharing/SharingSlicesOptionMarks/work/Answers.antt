use Rattle.std.proofs.Common.{◌+◌}
use Rattle.std.specs.Prelude.{slice_range}
use Rattle.wl_rows.specs.Ranges.{first_at}
use Rattle.link_keys.proofs.Slots.{noted_here}
use Rattle.link_keys.proofs.sharing.SharingSlicesOptionMarks.work.Goals as goal

pub marks_or_none-requires : goal.marks_or_none-requires
marks_or_none-requires c = c.args.self.now.sorted

pub returns : goal.returns
returns c =
    let s = c.args.self.now in
    noted_here s.tables.now s.imports s.names (slice_range s.live.now (first_at s.ranges.now.cuts s.ranges.now.count c.args.worker) (first_at s.ranges.now.cuts s.ranges.now.count (c.args.worker + 1)))
    c.part-live.result.now c.args.slots.now c.marks_or_none.result c.part-live.ensures c.marks_or_none.ensures
