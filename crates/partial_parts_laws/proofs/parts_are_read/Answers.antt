use Rattle.partial_parts_laws.proofs.PartsBack.{parts_are_read}
use Rattle.partial_parts_laws.proofs.parts_are_read.Goals as goal

pub returns : goal.returns
returns c = parts_are_read
