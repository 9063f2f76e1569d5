use Rattle.debug_customs.proofs.Objects.{objects_named}
use Rattle.debug_customs.proofs.objects_are_named.Goals as goal

pub returns : goal.returns
returns c = objects_named
