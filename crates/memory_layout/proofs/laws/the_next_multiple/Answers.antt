use Rattle.memory_layout.proofs.Order.{up-multiple, up-reaches, up-least}
use Rattle.memory_layout.proofs.laws.the_next_multiple.Goals as goal

pub returns-clause-multiple : goal.returns-clause-multiple
returns-clause-multiple c = up-multiple

pub returns-clause-reaches : goal.returns-clause-reaches
returns-clause-reaches c = up-reaches

pub returns-clause-least : goal.returns-clause-least
returns-clause-least c = up-least
