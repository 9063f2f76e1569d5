use Rattle.std.proofs.Common.{◌≡◌, drop}
use Rattle.run_modules.specs.Fits.{first_not}
use Rattle.run_machines.specs.Sym.{segment_fits}
use Rattle.run_machines.proofs.first.first_outside.Given as goal

abbrev pub invariant-loop-i : goal.invariant-loop-i
invariant-loop-i l = first_not (segment_fits l.room) l.i (drop l.i l.segments) ≡ first_not (segment_fits l.room) 0 l.segments
