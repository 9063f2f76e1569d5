use Rattle.std.proofs.Common.{◌≡◌, drop}
use Rattle.run_rules.specs.Modules.{element_fits}
use Rattle.run_modules.specs.Fits.{first_not}
use Rattle.run_modules.proofs.fits.first_element.Given as goal

abbrev pub invariant-loop-i : goal.invariant-loop-i
invariant-loop-i l = first_not (element_fits l.firsts l.room) l.i (drop l.i l.elements) ≡ first_not (element_fits l.firsts l.room) 0 l.elements
