use Rattle.std.proofs.Common.{◌≡◌, map, drop, fold}
use Rattle.partial_open.specs.Named.{segment_symbols, kept_lists, marked}
use Rattle.partial_open.proofs.flags.mark_segments.Given as goal

abbrev pub invariant-loop-index : goal.invariant-loop-index
invariant-loop-index l = fold marked l.flags (kept_lists l.dropped l.index (drop l.index (map segment_symbols l.from.segments))) ≡ fold marked l.fn.flags (kept_lists l.dropped 0 (map segment_symbols l.from.segments))
