use Rattle.std.proofs.Common.{◌≡◌, drop}
use Rattle.object_rules.specs.Windows.{start_of}
use Rattle.object_rules.proofs.windows.start_of.Given as goal

abbrev pub invariant-loop-section : goal.invariant-loop-section
invariant-loop-section l = start_of l.id (drop l.section-index l.all) ≡ start_of l.id l.all
