use Rattle.shared_worlds.proofs.shared_worlds_pair.Goals as goal
use Rattle.shared_worlds.proofs.Worlds.{worlds_law}

pub returns : goal.returns
returns c = worlds_law c.reached_exactly.ensures
