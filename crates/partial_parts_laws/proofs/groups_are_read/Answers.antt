use Rattle.partial_parts_laws.proofs.GroupsBack.{groups_are_read}
use Rattle.partial_parts_laws.proofs.groups_are_read.Goals as goal

pub returns : goal.returns
returns c = groups_are_read
