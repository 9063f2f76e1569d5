use Rattle.partial_parts_laws.proofs.Writable.{are_writable}
use Rattle.partial_parts_laws.proofs.are_writable.Goals as goal

pub returns : goal.returns
returns c = are_writable
