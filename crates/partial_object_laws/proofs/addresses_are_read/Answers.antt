use Rattle.partial_object_laws.proofs.AddressesRead.{addresses_read}
use Rattle.partial_object_laws.proofs.addresses_are_read.Goals as goal

pub returns : goal.returns
returns c = addresses_read c.read_well.ensures c.read_objects_are_sound.ensures.sound c.operands_stand_on_immediates.ensures c.addresses_are_only_read.ensures c.filled_bodies_are_read.ensures
