use Rattle.shared_laws.proofs.words_are_linked.Goals as goal
use Rattle.shared_laws.proofs.Linked.{words_linked}

pub returns : goal.returns
returns c = words_linked c.reached_exactly.ensures
