use Rattle.std.proofs.Common.{length, ap, ◌∙◌, arith}
use Rattle.name_unresolved.specs.Least.{least_by}
use Rattle.name_unresolved.specs.Search.{opened_init}
use Rattle.name_unresolved.proofs.Least.{ends}
use Rattle.name_unresolved.proofs.Pieces.{inits_are}
use Rattle.name_unresolved.proofs.piece.Piece.in_inits.Goals as goal

pub returns : goal.returns
returns c =
    let p = c.args.self.now in
    let inits = p.object.now.inits in
    ends (opened_init p) inits c.loop-init.init-index c.loop-init.least (least_by (opened_init p) inits)
    (omega (arith, ap length c.as_slice-init-items.ensures)) c.loop-init.invariant
    ∙ inits_are p
