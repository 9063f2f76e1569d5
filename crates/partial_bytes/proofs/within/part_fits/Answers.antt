use Rattle.std.proofs.Common.{length, ◌∙◌}
use Rattle.partial_bytes.proofs.Fitting.{fits_made}
use Rattle.partial_bytes.proofs.within.part_fits.Goals as goal

pub returns : goal.returns
returns c = c.windows_fit.ensures ∙ fits_made (length c.args.part.now.bytes.now) c.args.part.now.numbers.now c.args.part.now.named.now
