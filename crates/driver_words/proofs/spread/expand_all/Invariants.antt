use Rattle.std.proofs.Common.{◌≡◌, ◌-◌, IsTrue}
use Rattle.driver_words.specs.Expand.{expanded_to, Kept}
use Rattle.driver_words.proofs.spread.expand_all.Given as goal

abbrev pub invariant-loop : goal.invariant-loop
invariant-loop g l = Kept (g.F.Shelf.shown l.initial.shelf) (g.F.Shelf.shown l.shelf)
    × (IsTrue (g.F.Shelf.shown l.initial.shelf).tells → expanded_to (20 - l.counter) (g.F.Shelf.shown l.initial.shelf).held l.words ≡ expanded_to 20 (g.F.Shelf.shown l.initial.shelf).held l.initial.words)
