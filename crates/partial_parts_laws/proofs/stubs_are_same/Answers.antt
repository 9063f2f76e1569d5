use Rattle.partial_parts_laws.proofs.Stubs.{stubs_stay}
use Rattle.partial_parts_laws.proofs.stubs_are_same.Goals as goal

pub returns : goal.returns
returns c = λ run os ls s w. stubs_stay run os ls s w
