use Rattle.std.proofs.Common.{◌≡◌, take}
use Rattle.partial_imports.specs.Opens.{count_in}
use Rattle.partial_imports.proofs.opens.count_in.Given as goal

abbrev pub invariant-loop-found : goal.invariant-loop-found
invariant-loop-found l = l.count ≡ count_in l.kind (take l.found-index l.opens)
