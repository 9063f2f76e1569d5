use Rattle.partial_parts_laws.proofs.Referring.{runs_groups}
use Rattle.partial_parts_laws.proofs.runs_groups.Goals as goal

pub returns : goal.returns
returns c = runs_groups
