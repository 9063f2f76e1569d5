use Rattle.std.proofs.Common.{◌≡◌, IsTrue, drop}
use Rattle.driver_words.specs.Expand.{first_there}
use Rattle.driver_words.proofs.spread.first_there.Given as goal

abbrev pub invariant-loop-word : goal.invariant-loop-word
invariant-loop-word g l = IsTrue (g.F.Shelf.shown l.shelf).tells → first_there (g.F.Shelf.shown l.shelf).held (drop l.word-index l.words) ≡ first_there (g.F.Shelf.shown l.shelf).held l.words
