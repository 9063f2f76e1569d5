use Rattle.std.proofs.Common.{◌≡◌, ◌++◌, map, flat_map, drop}
use Rattle.object_rules.specs.Metadata.{member_key}
use Rattle.object_rules.proofs.metadata.member_keys.Given as goal

abbrev pub invariant-loop-group : goal.invariant-loop-group
invariant-loop-group l = l.keys ++ flat_map (λ g. map member_key g.members) (drop l.group-index l.groups) ≡ flat_map (λ g. map member_key g.members) l.groups
