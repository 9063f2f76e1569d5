use Rattle.std.proofs.Common.{◌≡◌, drop}
use Rattle.object_rules.specs.Windows.{relocs_for}
use Rattle.object_rules.proofs.windows.relocs_for.Given as goal

abbrev pub invariant-loop-section : goal.invariant-loop-section
invariant-loop-section l = relocs_for l.id l.all (drop l.section-index l.relocs) ≡ relocs_for l.id l.all l.relocs
