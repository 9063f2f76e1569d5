use Rattle.std.proofs.Common.{◌∙◌}
use Rattle.partial_parts.proofs.Parts.{place_is_told}
use Rattle.partial_parts.proofs.kept.place_of.Goals as goal

pub returns : goal.returns
returns c = λ p same are. c.place_in-place.ensures ∙ place_is_told p c.args.kept.now c.args.chunks.now c.args.chunk c.requires same are
