use Rattle.partial_loading_laws.proofs.Loads.{runs_are_loaded}
use Rattle.partial_loading_laws.proofs.runs_are_loaded.Goals as goal

pub returns : goal.returns
returns c = runs_are_loaded
