use Rattle.shared_runs.proofs.places_do_not_count.Goals as goal
use Rattle.shared_runs.proofs.Placeless.{same_placed}

pub returns : goal.returns
returns c = same_placed
