use Rattle.link_tails.proofs.Keeps.{customs_law}
use Rattle.link_tails.proofs.tail_is_customs.Goals as goal

pub returns : goal.returns
returns c = customs_law c.tail_is_customs.ensures c.names_are_custom.ensures c.features_are_custom.ensures
