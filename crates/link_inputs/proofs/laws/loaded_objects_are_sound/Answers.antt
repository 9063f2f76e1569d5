use Rattle.link_inputs.proofs.Sourced.{all_sound}
use Rattle.link_inputs.proofs.laws.loaded_objects_are_sound.Goals as goal

pub returns : goal.returns
returns c = all_sound
