use Rattle.std.proofs.Common.{◌+◌, get_or, arith}
use Rattle.std.proofs.lemmas.Option.{slice_get-get_or}
use Rattle.wl_rows.specs.Ranges.{first_at}
use Rattle.wl_rows.proofs.Cuts.{first_low}
use Rattle.program_tables.proofs.Joined.{grown_here}
use Rattle.program_tables.proofs.making.MakingSlicesPiece.work.Goals as goal

pub gain-requires-clause-up : goal.gain-requires-clause-up
gain-requires-clause-up c =
    let s = c.args.self.now in
    let rises = s.rising c.args.worker (c.args.worker + 1) (omega arith) in
    omega (arith, rises, c.first-from.ensures, c.first-to.ensures)

pub gain-requires-clause-there : goal.gain-requires-clause-there
gain-requires-clause-there c =
    let s = c.args.self.now in
    let low = first_low s.ranges.now.cuts s.ranges.now.count s.rising (c.args.worker + 1) in
    omega (arith, low, c.first-to.ensures, s.whole)

pub returns : goal.returns
returns c =
    let s = c.args.self.now in
    let first = first_at s.ranges.now.cuts s.ranges.now.count in
    grown_here s.lookups c.first-from.result c.first-to.result (first c.args.worker) (first (c.args.worker + 1)) c.args.pieces.now (get_or c.args.pieces.now 0 c.index-pieces-0.result) c.gain.new.self
    c.first-from.ensures c.first-to.ensures (slice_get-get_or c.args.pieces.now 0 c.index-pieces-0.result (omega (arith, c.requires.1))) c.gain.ensures
