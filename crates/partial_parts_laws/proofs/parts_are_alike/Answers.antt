use Rattle.partial_parts_laws.proofs.Alikes.{parts_are_alike}
use Rattle.partial_parts_laws.proofs.parts_are_alike.Goals as goal

pub returns : goal.returns
returns c = parts_are_alike
