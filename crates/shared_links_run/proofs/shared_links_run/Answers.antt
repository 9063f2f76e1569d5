use Rattle.shared_links_run.proofs.shared_links_run.Goals as goal
use Rattle.shared_links_run.proofs.Links.{links_run}

pub returns : goal.returns
returns c = links_run c.shared_links_are_read.ensures c.shared_facts_hold.ensures c.shared_outputs_run.ensures c.loaded_objects_are_sound.ensures
