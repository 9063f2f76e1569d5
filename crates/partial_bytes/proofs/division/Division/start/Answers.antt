use Rattle.std.proofs.Common.{◌≡◌, length, slice_get, Some, refl}
use Rattle.std.proofs.lemmas.Option.{slice_get_read, slice_get_past}
use Rattle.partial_bytes.proofs.Runs.{start_is, start_none}
use Rattle.partial_bytes.proofs.division.Division.start.Goals as goal

pub returns-in-Some : goal.returns-in-Some
returns-in-Some c =
    let d = c.args.self.now in
    let starts = d.starts.now in
    let l = c.in-Some.ensures.lookup in
    let at : slice_get starts c.args.piece ≡ Some c.in-Some.start.now = slice_get_read starts (length starts) c.args.piece c.in-Some.start.now refl l.3.0 l.1 in
    start_is d.pieces.now starts d.placed c.args.piece c.in-Some.start.now at

pub returns-in-None : goal.returns-in-None
returns-in-None c =
    let d = c.args.self.now in
    start_none d.pieces.now d.starts.now d.placed c.args.piece d.len d.long (slice_get_past d.starts.now c.args.piece c.in-None.ensures.lookup.3)
