use Rattle.partial_object_laws.proofs.Functions.{bodies_coded}
use Rattle.partial_object_laws.proofs.bodies_are_coded.Goals as goal

pub returns : goal.returns
returns c = bodies_coded c.read_well.ensures c.read_objects_are_sound.ensures.sound c.operands_stand_on_immediates.ensures c.filled_bodies_are_read.ensures
