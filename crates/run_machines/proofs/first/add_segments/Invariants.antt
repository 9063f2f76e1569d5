use Rattle.std.proofs.Common.{◌≡◌, drop, length, true}
use Rattle.std.specs.List.{list_all}
use Rattle.run_machines.specs.Sym.{segment_fits, with_segments}
use Rattle.run_machines.proofs.first.add_segments.Given as goal

-- what is left, over what is there, gives what the whole gives
abbrev pub invariant-loop-segment : goal.invariant-loop-segment
invariant-loop-segment l = record {
  memory : with_segments (drop l.segment-index l.segments) l.memory ≡ with_segments l.segments l.fn.memory;
  fits : list_all (segment_fits (length l.memory)) (drop l.segment-index l.segments) ≡ true;
}
