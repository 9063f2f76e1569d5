use Rattle.partial_symbols.proofs.Referring.{number_is}
use Rattle.partial_symbols.proofs.laws.numbers_are.Goals as goal

pub returns : goal.returns
returns c = number_is
