use Rattle.partial_parts_laws.proofs.Final.{programs_are_alike}
use Rattle.partial_parts_laws.proofs.programs_are_alike.Goals as goal

pub returns : goal.returns
returns c = programs_are_alike
