use Rattle.std.proofs.Common.{◌≡◌, IsTrue, drop, false}
use Rattle.driver_table.specs.Cut.{behind}
use Rattle.driver_words.specs.Expand.{Kept}
use Rattle.driver_words.specs.Inputs.{inputs_from}
use Rattle.driver_words.proofs.inputs.put_items.Given as goal

abbrev pub invariant-loop-item : goal.invariant-loop-item
invariant-loop-item g l = Kept (g.F.Shelf.shown l.initial.shelf) (g.F.Shelf.shown l.shelf)
    × (IsTrue (g.F.Shelf.shown l.initial.shelf).tells → behind l.words (inputs_from (g.F.Shelf.shown l.initial.shelf).held l.folders l.inside l.whole (drop l.item-index l.items)) ≡ behind l.initial.words (inputs_from (g.F.Shelf.shown l.initial.shelf).held l.folders false false l.items))
