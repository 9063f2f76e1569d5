use Rattle.partial_parts_laws.proofs.MovingLaws.{parts_are_moved}
use Rattle.partial_parts_laws.proofs.parts_are_moved.Goals as goal

pub returns : goal.returns
returns c = parts_are_moved
