use Rattle.std.proofs.Common.{◌≡◌, drop}
use Rattle.name_unresolved.specs.Least.{lesser, least_by}
use Rattle.name_unresolved.specs.Search.{opened_in}
use Rattle.name_unresolved.proofs.piece.Piece.in_windows.Given as goal

abbrev pub invariant-loop-window : goal.invariant-loop-window
invariant-loop-window l =
    lesser l.least (least_by (λ w. opened_in l.self w.index) (drop l.window-index l.windows)) ≡ least_by (λ w. opened_in l.self w.index) l.windows
