use Rattle.shared_runs.proofs.shared_memory_holds.Goals as goal
use Rattle.shared_runs.proofs.Holding.{memory_holds}

pub returns : goal.returns
returns c = memory_holds
