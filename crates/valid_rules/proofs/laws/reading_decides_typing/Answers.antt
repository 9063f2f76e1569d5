use Rattle.valid_rules.proofs.laws.reading_decides_typing.Goals as goal
use Rattle.valid_rules.proofs.Sound.{sound_body}
use Rattle.valid_rules.proofs.Complete.{complete_body}

pub returns : goal.returns
returns c = λ results code. (sound_body results code, complete_body results code)
