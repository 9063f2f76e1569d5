use Rattle.std.proofs.Common.{◌≡◌, ◌++◌, drop}
use Rattle.std.specs.Prelude.{filter_map}
use Rattle.wasm_valid.specs.Spaces.{a_function}
use Rattle.valid_objects.proofs.names.imported_functions.Given as goal

abbrev pub invariant-loop-at : goal.invariant-loop-at
invariant-loop-at l = l.found ++ filter_map (λ i. a_function i.kind) (drop l.at l.o.imports) ≡ filter_map (λ i. a_function i.kind) l.o.imports
