use Rattle.partial_parts_laws.proofs.NumbersFit.{numbers_fit}
use Rattle.partial_parts_laws.proofs.numbers_fit.Goals as goal

pub returns : goal.returns
returns c = numbers_fit
