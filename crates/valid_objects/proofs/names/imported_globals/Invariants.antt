use Rattle.std.proofs.Common.{◌≡◌, ◌++◌, drop}
use Rattle.std.specs.Prelude.{filter_map}
use Rattle.object_file.specs.Spaces.{imported_global}
use Rattle.valid_objects.proofs.names.imported_globals.Given as goal

abbrev pub invariant-loop-at : goal.invariant-loop-at
invariant-loop-at l = l.found ++ filter_map (λ i. imported_global i.kind) (drop l.at l.o.imports) ≡ filter_map (λ i. imported_global i.kind) l.o.imports
