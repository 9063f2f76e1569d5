use Rattle.partial_parts_laws.proofs.NamedObjects.{objects_are_named}
use Rattle.partial_parts_laws.proofs.objects_are_named.Goals as goal

pub returns : goal.returns
returns c = objects_are_named
