use Rattle.shared_worlds.proofs.least_tables_run_alone.Goals as goal
use Rattle.shared_worlds.proofs.Least.{least_tables}

pub returns : goal.returns
returns c = least_tables
