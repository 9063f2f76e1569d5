use Rattle.std.proofs.Common.{◌≡◌, drop}
use Rattle.name_unresolved.specs.Least.{lesser, least_by}
use Rattle.name_unresolved.specs.Search.{opened_init}
use Rattle.name_unresolved.proofs.piece.Piece.in_inits.Given as goal

abbrev pub invariant-loop-init : goal.invariant-loop-init
invariant-loop-init l =
    lesser l.least (least_by (opened_init l.self) (drop l.init-index l.self.object.now.inits)) ≡ least_by (opened_init l.self) l.self.object.now.inits
