use Rattle.std.proofs.Common.{◌≡◌, drop}
use Rattle.feature_section.specs.Conflict.{used_against}
use Rattle.feature_section.proofs.conflict.used_against.Given as goal

abbrev pub invariant-loop-feature : goal.invariant-loop-feature
invariant-loop-feature l = used_against l.disallowed.entries l.object (drop l.feature-index l.features) ≡ used_against l.disallowed.entries l.object l.features
