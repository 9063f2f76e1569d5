use Rattle.link_tails.proofs.Keeps.{valid_law}
use Rattle.link_tails.proofs.valid_stays.Goals as goal

pub returns : goal.returns
returns c = valid_law c.tail_is_customs.ensures c.customs_say_nothing.ensures
