use Rattle.std.proofs.Common.{None}
use Rattle.object_rules.specs.object_parts.declared.parts.DataPart.{DataPart}
use Rattle.object_file.proofs.Made.{segment_more}
use Rattle.object_file.proofs.segments.segments_from.Goals as goal

pub loop-at-preserved : goal.loop-at-preserved
loop-at-preserved c =
    let none : DataPart = record { memory = None; span = record { start = 0; len = 0 } } in
    rw (c.in_ok-push.ensures.ok, c.with_info.ensures, c.as_slice.ensures, c.in_ok-put_windows.ensures, c.saturating_sub.ensures, c.split_before.ensures.before, c.split_before.ensures.behind, c.end_in.ensures)
    (segment_more c.args.start c.loop-at.at c.loop-at.left.now c.args.infos.now c.args.parts.now none c.loop-at.segments _ c.loop-at-test.true c.loop-at.invariant)
