use Rattle.shared_worlds.proofs.shared_runs_agree.Goals as goal
use Rattle.shared_worlds.proofs.Worlds.{runs_law}

pub returns : goal.returns
returns c = runs_law c.reached_exactly.ensures
