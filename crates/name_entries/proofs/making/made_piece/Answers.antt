use Rattle.std.proofs.Common.{subst}
use Rattle.name_entries.specs.Pieces.{IsPiece}
use Rattle.name_entries.proofs.making.made_piece.Goals as goal

pub returns : goal.returns
returns g c =
    let objects = c.args.objects.now in
    let names = c.args.names.now.symbols in
    let r = c.in_ok-ranges.ranges in
    subst (λ n. IsPiece objects names 0 n c.in_ok-piece.piece) c.in_ok-ranges.ensures.count (c.in_ok-piece.ensures objects names r.cuts r.count c.workers.ensures c.in_ok-slots.ensures)
