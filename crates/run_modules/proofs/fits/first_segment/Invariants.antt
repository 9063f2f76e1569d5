use Rattle.std.proofs.Common.{◌≡◌, ◌+◌, drop}
use Rattle.run_rules.specs.Modules.{segment_fits}
use Rattle.run_modules.specs.Fits.{first_not}
use Rattle.run_modules.proofs.fits.first_segment.Given as goal

abbrev pub invariant-loop-i : goal.invariant-loop-i
invariant-loop-i l = first_not (segment_fits l.firsts l.room) (l.from + l.i) (drop l.i l.segments) ≡ first_not (segment_fits l.firsts l.room) l.from l.segments
