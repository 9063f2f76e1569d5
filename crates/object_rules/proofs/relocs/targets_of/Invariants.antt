use Rattle.std.proofs.Common.{◌≡◌, ◌++◌, map, drop}
use Rattle.object_rules.proofs.relocs.targets_of.Given as goal

abbrev pub invariant-loop-section : goal.invariant-loop-section
invariant-loop-section l = l.targets ++ map (λ r. r.target) (drop l.section-index l.relocs) ≡ map (λ r. r.target) l.relocs
