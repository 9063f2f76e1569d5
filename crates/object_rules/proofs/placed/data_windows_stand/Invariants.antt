use Rattle.std.proofs.Common.{◌≡◌, drop}
use Rattle.object_rules.specs.Windows.{data_windows_stand}
use Rattle.object_rules.proofs.placed.data_windows_stand.Given as goal

abbrev pub invariant-loop-segment : goal.invariant-loop-segment
invariant-loop-segment l = data_windows_stand l.start l.rest (drop l.segment-index l.segments) ≡ data_windows_stand l.start l.relocs l.segments
