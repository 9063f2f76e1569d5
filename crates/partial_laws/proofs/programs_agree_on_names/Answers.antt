use Rattle.partial_laws.proofs.Programs.{programs_agree}
use Rattle.partial_laws.proofs.programs_agree_on_names.Goals as goal

pub returns : goal.returns
returns c = programs_agree
