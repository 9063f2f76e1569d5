use Rattle.std.proofs.Common.{◌≡◌, length, map}
use Rattle.std.specs.Str.{bytes_eq}
use Rattle.object_rules.specs.Differ.{all_differ}
use Rattle.object_rules.proofs.metadata.pairs_differ.Given as goal

abbrev pub invariant-loop-left : goal.invariant-loop-left
invariant-loop-left l = all_differ bytes_eq (map (λ g. g.name) l.left) ≡ all_differ bytes_eq (map (λ g. g.name) l.groups)

abbrev pub decreases-loop-left : goal.decreases-loop-left
decreases-loop-left l = length l.left
