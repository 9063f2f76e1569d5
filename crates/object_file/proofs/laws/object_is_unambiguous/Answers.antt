use Rattle.object_file.proofs.Read.{one_object}
use Rattle.object_file.proofs.laws.object_is_unambiguous.Goals as goal

pub returns : goal.returns
returns c = one_object
