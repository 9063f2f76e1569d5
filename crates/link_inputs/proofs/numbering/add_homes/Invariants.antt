use Rattle.std.proofs.Common.{◌≡◌, ◌++◌, drop}
use Rattle.link_inputs.specs.declared.opening.OpenFile.TheVariants.{Library}
use Rattle.link_inputs.specs.Sources.{homes_in}
use Rattle.link_inputs.proofs.numbering.add_homes.Given as goal

abbrev pub invariant-loop-member : goal.invariant-loop-member
invariant-loop-member l = l.homes ++ drop l.member (homes_in l.file (Library l.library)) ≡ l.fn.homes ++ homes_in l.file (Library l.library)
