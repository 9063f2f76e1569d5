use Rattle.run_laws.proofs.traces_agree.Goals as goal
use Rattle.run_laws.proofs.Traced.{agree_law}

pub returns : goal.returns
returns c = agree_law c.links_run.ensures c.fitting_sessions.ensures
