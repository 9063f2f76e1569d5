use Rattle.partial_object_laws.proofs.Objects.{are_objects}
use Rattle.partial_object_laws.proofs.partials_are_objects.Goals as goal

pub returns : goal.returns
returns c = are_objects c.read_well.ensures c.bodies_are_coded.ensures c.globals_are_spelled.ensures c.addresses_are_read.ensures c.are_writable.ensures c.rules_are_kept.ensures c.relocatable_bytes_are_an_object.ensures
