use Rattle.debug_customs.proofs.Customs.{are_customs}
use Rattle.debug_customs.proofs.sections_are_customs.Goals as goal

pub returns : goal.returns
returns c = are_customs
