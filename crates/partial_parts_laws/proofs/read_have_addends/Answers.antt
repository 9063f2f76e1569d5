use Rattle.partial_parts_laws.proofs.ReadOperands.{read_have_addends}
use Rattle.partial_parts_laws.proofs.read_have_addends.Goals as goal

pub returns : goal.returns
returns c = read_have_addends
