use Rattle.partial_laws.proofs.Programs.{programs_are_of}
use Rattle.partial_laws.proofs.programs_are_of_their_objects.Goals as goal

pub returns : goal.returns
returns c = programs_are_of
