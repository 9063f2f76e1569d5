use Rattle.std.proofs.Common.{◌≡◌, drop, length, true}
use Rattle.std.specs.List.{list_all}
use Rattle.run_rules.specs.Modules.{segment_fits, with_segments}
use Rattle.run_modules.proofs.starts.add_segments.Given as goal

abbrev pub invariant-loop-segment : goal.invariant-loop-segment
invariant-loop-segment l = record {
  memory : with_segments l.firsts (drop l.segment-index l.segments) l.memory ≡ with_segments l.firsts l.segments l.fn.memory;
  fits : list_all (segment_fits l.firsts (length l.memory)) (drop l.segment-index l.segments) ≡ true;
}
