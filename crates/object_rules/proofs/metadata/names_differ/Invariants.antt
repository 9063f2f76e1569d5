use Rattle.std.proofs.Common.{◌≡◌, drop, map}
use Rattle.std.specs.Str.{bytes_eq}
use Rattle.object_rules.specs.Differ.{all_differ}
use Rattle.object_rules.proofs.Seen.{differ_behind}
use Rattle.object_rules.proofs.metadata.names_differ.Given as goal

abbrev pub invariant-loop-group : goal.invariant-loop-group
invariant-loop-group l = differ_behind bytes_eq (λ key. key.now) l.seen.keys (map (λ g. g.name) (drop l.group-index l.groups)) ≡ all_differ bytes_eq (map (λ g. g.name) l.groups)
