use Rattle.partial_parts_laws.proofs.ReadTree.{trees_are_read}
use Rattle.partial_parts_laws.proofs.trees_are_read.Goals as goal

pub returns : goal.returns
returns c = trees_are_read
