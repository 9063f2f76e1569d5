use Rattle.std.proofs.Common.{◌≡◌, ◌++◌, take}
use Rattle.std.specs.List.{flat_map}
use Rattle.library_indexer.specs.Index.{moved_word}
use Rattle.library_indexer.proofs.index.put_places.Given as goal

abbrev pub invariant-loop-place : goal.invariant-loop-place
invariant-loop-place l = l.to ≡ l.fn.to ++ flat_map (moved_word l.size) (take l.place-index l.places)
