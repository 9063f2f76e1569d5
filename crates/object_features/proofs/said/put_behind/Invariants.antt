use Rattle.std.proofs.Common.{◌≡◌, ◌++◌}
use Rattle.object_features.proofs.said.put_behind.Given as goal

abbrev pub invariant-loop-feature : goal.invariant-loop-feature
invariant-loop-feature l = l.front ≡ l.initial.front ++ l.yielded
