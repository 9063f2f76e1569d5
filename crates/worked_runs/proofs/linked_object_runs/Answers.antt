use Rattle.std.specs.Prelude.{refl}
use Rattle.worked_runs.proofs.Linked.{link_is, is_plan}
use Rattle.worked_runs.proofs.linked_object_runs.Goals as goal

pub returns-clause-bytes : goal.returns-clause-bytes
returns-clause-bytes c = link_is

pub returns-clause-runs : goal.returns-clause-runs
returns-clause-runs c = c.links_run.ensures _ _ _ is_plan refl link_is refl
