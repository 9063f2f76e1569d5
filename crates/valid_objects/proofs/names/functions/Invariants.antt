use Rattle.std.proofs.Common.{◌≡◌, ◌++◌, drop, map}
use Rattle.valid_objects.specs.Merging.{function_indexes}
use Rattle.valid_objects.proofs.names.functions.Given as goal

abbrev pub invariant-loop-at : goal.invariant-loop-at
invariant-loop-at l = l.found ++ map (λ f. f.type_index) (drop l.at l.o.functions) ≡ function_indexes l.o
