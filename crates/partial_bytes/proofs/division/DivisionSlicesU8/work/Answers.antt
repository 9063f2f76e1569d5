use Rattle.std.proofs.Common.{◌≤◌, ◌+◌, ◌-◌, take, ap, sym, subst, arith, ◌∙◌}
use Rattle.std.specs.Prelude.{slice_range}
use Rattle.partial_bytes.specs.Pieces.{starts_from, run_first, pieces_len, pieces_bytes, Fit}
use Rattle.partial_bytes.specs.PieceLaws.{first_rises, first_most}
use Rattle.partial_bytes.proofs.Placed.{starts_count, range_fits, range_len, take_most}
use Rattle.partial_bytes.proofs.division.DivisionSlicesU8.work.Goals as goal

pub between-pieces-requires-clause-up : goal.between-pieces-requires-clause-up
between-pieces-requires-clause-up c =
    let d = c.args.self.now in
    let rises = first_rises (starts_from 0 d.pieces.now) (pieces_len d.pieces.now) d.width c.args.run (c.args.run + 1) (omega arith) in
    omega (arith, c.first-from.ensures, c.first-to.ensures, rises)

pub between-pieces-requires-clause-inside : goal.between-pieces-requires-clause-inside
between-pieces-requires-clause-inside c =
    let d = c.args.self.now in
    let most = first_most (starts_from 0 d.pieces.now) (pieces_len d.pieces.now) d.width (c.args.run + 1) in
    omega (arith, c.first-to.ensures, most, starts_count 0 d.pieces.now)

pub put_pieces-requires-clause-fit : goal.put_pieces-requires-clause-fit
put_pieces-requires-clause-fit c =
    let d = c.args.self.now in
    subst Fit (sym c.between-pieces.ensures) (range_fits d.pieces.now c.first-from.result c.first-to.result d.fit)

pub put_pieces-requires-clause-room : goal.put_pieces-requires-clause-room
put_pieces-requires-clause-room c =
    let d = c.args.self.now in
    let qs = d.pieces.now in
    let rises = first_rises (starts_from 0 qs) (pieces_len qs) d.width c.args.run (c.args.run + 1) (omega arith) in
    let up : c.first-from.result ≤ c.first-to.result = omega (arith, c.first-from.ensures, c.first-to.ensures, rises) in
    let here = range_len qs c.first-from.result c.first-to.result up in
    c.requires.1 ∙ sym (ap pieces_len c.between-pieces.ensures ∙ here ∙ (λ i. pieces_len (take (c.first-to.ensures i) qs) - pieces_len (take (c.first-from.ensures i) qs)))

pub returns : goal.returns
returns c =
    let d = c.args.self.now in
    c.put_pieces.ensures ∙ ap (pieces_bytes) (c.between-pieces.ensures ∙ (λ i. slice_range d.pieces.now (c.first-from.ensures i) (c.first-to.ensures i)))

pub put_pieces-requires-clause-short : goal.put_pieces-requires-clause-short
put_pieces-requires-clause-short c =
    let d = c.args.self.now in
    let most = take_most d.pieces.now (run_first (starts_from 0 d.pieces.now) (pieces_len d.pieces.now) d.width (c.args.run + 1)) in
    omega (arith, c.requires.1, most, d.long, d.short)
