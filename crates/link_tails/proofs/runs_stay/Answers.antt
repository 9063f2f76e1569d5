use Rattle.link_tails.proofs.Keeps.{runs_law}
use Rattle.link_tails.proofs.runs_stay.Goals as goal

pub returns : goal.returns
returns c = runs_law c.tail_is_customs.ensures c.tails_run.ensures
