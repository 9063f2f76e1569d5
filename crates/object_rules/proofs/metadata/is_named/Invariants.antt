use Rattle.std.proofs.Common.{◌≡◌, drop, map}
use Rattle.std.specs.List.{list_any}
use Rattle.std.specs.Str.{bytes_eq}
use Rattle.object_rules.proofs.metadata.is_named.Given as goal

abbrev pub invariant-loop-group : goal.invariant-loop-group
invariant-loop-group l = list_any (bytes_eq l.name) (map (λ g. g.name) (drop l.group-index l.groups)) ≡ list_any (bytes_eq l.name) (map (λ g. g.name) l.groups)
