use Rattle.partial_laws.proofs.Stated.{parts_are_kept}
use Rattle.partial_laws.proofs.parts_are_kept.Goals as goal

pub returns : goal.returns
returns c = parts_are_kept
