use Rattle.partial_laws.proofs.Stated.{names_are_kept}
use Rattle.partial_laws.proofs.names_are_kept.Goals as goal

pub returns : goal.returns
returns c = names_are_kept
