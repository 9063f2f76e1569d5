use Rattle.partial_tree.proofs.Relocated.{part_relocs}
use Rattle.partial_tree.proofs.relocs.relocs_are.Goals as goal

pub returns : goal.returns
returns c = part_relocs
