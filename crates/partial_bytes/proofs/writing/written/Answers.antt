use Rattle.std.proofs.Common.{◌∙◌, ap, sym, subst}
use Rattle.partial_bytes.specs.Pieces.{pieces_bytes, Fit}
use Rattle.partial_bytes.proofs.Fitting.{parts_judged}
use Rattle.partial_bytes.proofs.Bridge.{told_written}
use Rattle.partial_bytes.proofs.writing.written.Goals as goal

pub joined-requires-after_bounds : goal.joined-requires-after_bounds
joined-requires-after_bounds g c κs within =
    let tree = c.args.tree.now in
    subst Fit (sym c.as_slice.ensures)
    (c.in_ok-pieces.ensures.fit (parts_judged tree.bodies.now c.requires.fits.bodies) (parts_judged tree.segments.now c.requires.fits.segments))

pub returns : goal.returns
returns g c =
    c.in_ok-bytes.ensures ∙ (ap pieces_bytes c.as_slice.ensures ∙ (c.in_ok-pieces.ensures.bytes ∙ told_written c.args.tree.now c.requires.fits))
