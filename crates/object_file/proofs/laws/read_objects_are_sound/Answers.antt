use Rattle.object_file.proofs.SoundObject.{read_is_sound, input_is}
use Rattle.object_file.proofs.laws.read_objects_are_sound.Goals as goal

pub returns-clause-input : goal.returns-clause-input
returns-clause-input c = λ input bytes o is. input_is input bytes o is

pub returns-clause-sound : goal.returns-clause-sound
returns-clause-sound c = λ input bytes o is. read_is_sound input bytes o is
