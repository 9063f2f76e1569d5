use Rattle.shared_worlds.proofs.shared_starts_pair.Goals as goal
use Rattle.shared_worlds.proofs.Worlds.{starts_law}

pub returns : goal.returns
returns c = starts_law c.reached_exactly.ensures
