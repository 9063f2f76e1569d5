use Rattle.partial_parts_laws.proofs.FromFiles.{linked_files}
use Rattle.partial_parts_laws.proofs.linked_files_are_same.Goals as goal

pub returns : goal.returns
returns c = linked_files c.links_are_same.ensures
