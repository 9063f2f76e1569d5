use Rattle.std.proofs.Common.{◌≡◌, drop}
use Rattle.feature_section.specs.Union.{with_features}
use Rattle.feature_section.proofs.union.add_features.Given as goal

abbrev pub invariant-loop-feature : goal.invariant-loop-feature
invariant-loop-feature l = with_features l.names.keys (drop l.feature-index l.features) ≡ with_features l.fn.names.keys l.features
