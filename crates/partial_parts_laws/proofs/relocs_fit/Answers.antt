use Rattle.partial_parts_laws.proofs.RelocsFit.{relocs_fit}
use Rattle.partial_parts_laws.proofs.relocs_fit.Goals as goal

pub returns : goal.returns
returns c = relocs_fit
