use Rattle.object_file.proofs.Addressed.{addresses_read}
use Rattle.object_file.proofs.laws.addresses_are_only_read.Goals as goal

pub returns : goal.returns
returns c = addresses_read
