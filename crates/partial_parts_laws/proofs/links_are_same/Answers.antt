use Rattle.partial_parts_laws.proofs.Linked.{links_are_same}
use Rattle.partial_parts_laws.proofs.links_are_same.Goals as goal

pub returns : goal.returns
returns c = λ run os ls s w bytes linked. links_are_same run os ls s w (c.outputs_are_same.ensures run os ls s w) bytes linked
