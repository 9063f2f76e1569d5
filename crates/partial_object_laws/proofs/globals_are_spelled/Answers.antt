use Rattle.partial_object_laws.proofs.SpelledGlobals.{all_spelled}
use Rattle.partial_object_laws.proofs.globals_are_spelled.Goals as goal

pub returns : goal.returns
returns c = all_spelled c.read_well.ensures c.read_objects_are_sound.ensures.sound
