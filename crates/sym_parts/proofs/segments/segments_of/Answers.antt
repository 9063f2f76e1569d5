use Rattle.sym_parts.specs.Sought.{known}
use Rattle.sym_parts.specs.Data.{segment_seen}
use Rattle.sym_parts.proofs.Gives.{gives_more}
use Rattle.sym_parts.proofs.segments.segments_of.Goals as goal

pub loop-number-preserved : goal.loop-number-preserved
loop-number-preserved c =
    gives_more (segment_seen (known c.args.k) c.args.files.now c.args.addresses.now) c.args.numbers.now c.loop-number.number-index 0 c.loop-number-test.true c.loop-number.segments c.push.new.self c.in_ok-segment.segment
    c.loop-number.invariant c.in_ok-segment.ensures c.in_ok-push.ensures.ok
