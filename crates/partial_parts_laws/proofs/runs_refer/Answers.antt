use Rattle.partial_parts_laws.proofs.Referring.{runs_refer}
use Rattle.partial_parts_laws.proofs.runs_refer.Goals as goal

pub returns : goal.returns
returns c = runs_refer
