use Rattle.partial_parts_laws.proofs.RunBack.{runs_are_read}
use Rattle.partial_parts_laws.proofs.runs_are_read.Goals as goal

pub returns : goal.returns
returns c = runs_are_read
