use Rattle.std.proofs.Common.{◌≡◌, drop}
use Rattle.object_features.specs.Check.{outside}
use Rattle.object_features.proofs.check.outside.Given as goal

abbrev pub invariant-loop-feature : goal.invariant-loop-feature
invariant-loop-feature l = outside l.names l.input (drop l.feature-index l.features) ≡ outside l.names l.input l.features
