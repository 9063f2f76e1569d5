use Rattle.object_file.proofs.SoundObject.{bodies_stand}
use Rattle.object_file.proofs.laws.operands_stand_on_immediates.Goals as goal

pub returns : goal.returns
returns c = λ input bytes o is. bodies_stand input bytes o is
