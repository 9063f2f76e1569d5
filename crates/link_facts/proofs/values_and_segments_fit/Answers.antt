use Rattle.link_facts.proofs.values_and_segments_fit.Goals as goal
use Rattle.link_facts.proofs.Values.{values_fit}
use Rattle.link_facts.proofs.Rising.{memory_holds}

pub returns-clause-values : goal.returns-clause-values
returns-clause-values c = values_fit c.reached_exactly.ensures

pub returns-clause-memory : goal.returns-clause-memory
returns-clause-memory c = memory_holds
