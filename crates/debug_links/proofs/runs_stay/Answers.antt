use Rattle.debug_links.proofs.Keeps.{runs_law}
use Rattle.debug_links.proofs.runs_stay.Goals as goal

pub returns : goal.returns
returns c = runs_law c.tail_is_customs.ensures c.tails_run.ensures
