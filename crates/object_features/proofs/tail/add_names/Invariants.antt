use Rattle.std.proofs.Common.{◌≡◌, drop}
use Rattle.object_features.specs.Tail.{with_names}
use Rattle.object_features.proofs.tail.add_names.Given as goal

abbrev pub invariant-loop-name : goal.invariant-loop-name
invariant-loop-name l = with_names l.names (drop l.name-index l.more) ≡ with_names l.fn.names l.more
