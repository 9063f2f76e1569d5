use Rattle.std.proofs.Common.{◌≡◌, ◌++◌, map, drop}
use Rattle.object_rules.specs.Metadata.{member_key}
use Rattle.object_rules.proofs.metadata.push_keys.Given as goal

abbrev pub invariant-loop-member : goal.invariant-loop-member
invariant-loop-member l = l.keys ++ map member_key (drop l.member-index l.members) ≡ l.initial.keys ++ map member_key l.members
