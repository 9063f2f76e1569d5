use Rattle.std.proofs.Common.{◌≡◌, ◌+◌, ◌≤◌, List, subst, arith}
use Rattle.name_entries.specs.Pieces.{IsPiece}
use Rattle.wl_rows.specs.Ranges.{first_at}
use Rattle.wl_rows.proofs.Cuts.{first_low}
use Rattle.name_entries.proofs.making.Making.made.Goals as goal

pub of-requires-clause-up : goal.of-requires-clause-up
of-requires-clause-up c =
    let s = c.args.self.now in
    let rises = s.rising c.args.worker (c.args.worker + 1) (omega arith) in
    omega (arith, rises, c.first-from.ensures, c.first-to.ensures)

pub of-requires-clause-there : goal.of-requires-clause-there
of-requires-clause-there c =
    let s = c.args.self.now in
    let low = first_low s.ranges.now.cuts s.ranges.now.count s.rising (c.args.worker + 1) in
    omega (arith, low, c.first-to.ensures, s.whole)

pub returns-in-Ok : goal.returns-in-Ok
returns-in-Ok c =
    let s = c.args.self.now in
    let first = first_at s.ranges.now.cuts s.ranges.now.count in
    subst (λ n. IsPiece s.objects.now s.names.now.symbols (first c.args.worker) n c.in-Ok.piece) c.first-to.ensures
    (subst (λ n. IsPiece s.objects.now s.names.now.symbols n c.first-to.result c.in-Ok.piece) c.first-from.ensures c.in-Ok.ensures)
