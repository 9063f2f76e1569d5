use Rattle.std.proofs.Common.{◌≡◌, drop}
use Rattle.feature_section.specs.Union.{with_objects}
use Rattle.feature_section.proofs.union.add_objects.Given as goal

abbrev pub invariant-loop-features : goal.invariant-loop-features
invariant-loop-features l = with_objects l.names.keys (drop l.features-index l.objects) ≡ with_objects l.fn.names.keys l.objects
