use Rattle.object_file.proofs.Read.{object_found, object_again}
use Rattle.object_file.proofs.laws.objects_are_read.Goals as goal

pub returns-clause-found : goal.returns-clause-found
returns-clause-found c = object_found

pub returns-clause-again : goal.returns-clause-again
returns-clause-again c = object_again
