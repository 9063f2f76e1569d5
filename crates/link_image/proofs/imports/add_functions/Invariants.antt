use Rattle.std.proofs.Common.{◌≡◌, ◌++◌, drop}
use Rattle.link_image.specs.Imports.{functions_seen}
use Rattle.link_image.proofs.imports.add_functions.Given as goal

abbrev pub invariant-loop-at : goal.invariant-loop-at
invariant-loop-at l =
    l.imports ++ functions_seen l.resolution.imports (drop l.at l.types) (drop l.at l.keys) ≡ l.initial.imports ++ functions_seen l.resolution.imports l.types l.keys
