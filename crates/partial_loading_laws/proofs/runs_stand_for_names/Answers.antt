use Rattle.partial_loading_laws.proofs.Stands.{runs_stand_for_names}
use Rattle.partial_loading_laws.proofs.runs_stand_for_names.Goals as goal

pub returns : goal.returns
returns c = runs_stand_for_names
