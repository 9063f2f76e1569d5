use Rattle.partial_object_laws.proofs.ReadWell.{well_read}
use Rattle.partial_object_laws.proofs.read_well.Goals as goal

pub returns : goal.returns
returns c = well_read c.read_objects_are_sound.ensures.sound c.read_objects_are_spellable.ensures c.objects_are_named.ensures c.read_have_addends.ensures
