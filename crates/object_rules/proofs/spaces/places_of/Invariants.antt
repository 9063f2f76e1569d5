use Rattle.std.proofs.Common.{◌≡◌, map, slice_get, Some, take}
use Rattle.object_rules.specs.Spaces.{imports_of}
use Rattle.object_rules.proofs.spaces.places_of.Given as goal

abbrev pub invariant-loop-at : goal.invariant-loop-at
invariant-loop-at l = map (slice_get l.imports) l.places ≡ map (λ i. Some i) (imports_of l.kind (take l.at l.imports))
