use Rattle.module_tails.proofs.Tails.{says_nothing}
use Rattle.module_tails.proofs.customs_say_nothing.Goals as goal

pub returns : goal.returns
returns c = says_nothing
