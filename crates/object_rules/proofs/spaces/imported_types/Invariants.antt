use Rattle.std.proofs.Common.{◌≡◌, ◌++◌, filter_map, drop}
use Rattle.object_rules.specs.Spaces.{imported_type}
use Rattle.object_rules.proofs.spaces.imported_types.Given as goal

abbrev pub invariant-loop-import : goal.invariant-loop-import
invariant-loop-import l = l.types ++ filter_map (λ i. imported_type i.kind) (drop l.import-index l.imports) ≡ filter_map (λ i. imported_type i.kind) l.imports
