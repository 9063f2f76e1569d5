use Rattle.std.proofs.Common.{◌≡◌, take}
use Rattle.std.specs.Prelude.{map}
use Rattle.library_indexer.specs.Steps.{moved_back}
use Rattle.library_indexer.proofs.members.moved_back.Given as goal

abbrev pub invariant-loop-k : goal.invariant-loop-k
invariant-loop-k l = l.members ≡ map moved_back (take l.k l.library.members)
