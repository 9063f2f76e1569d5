use Rattle.link_tails.proofs.Offsets.{offsets_law}
use Rattle.link_tails.proofs.offsets_stay.Goals as goal

pub returns : goal.returns
returns c = offsets_law c.names_are_custom.ensures c.features_are_custom.ensures c.offsets_stay.ensures
