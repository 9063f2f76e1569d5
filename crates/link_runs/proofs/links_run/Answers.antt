use Rattle.link_runs.proofs.links_run.Goals as goal
use Rattle.link_runs.proofs.LinksRun.{links_law}

pub returns : goal.returns
returns c = links_law c.entries_take_bytes.ensures.entries c.outputs_run.ensures c.facts_hold.ensures c.loaded_objects_are_sound.ensures
