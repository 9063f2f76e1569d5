use Rattle.partial_parts_laws.proofs.Calls.{calls_are_alike}
use Rattle.partial_parts_laws.proofs.calls_are_alike.Goals as goal

pub returns : goal.returns
returns c = calls_are_alike
