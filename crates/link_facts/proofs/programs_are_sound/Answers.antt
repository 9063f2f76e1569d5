use Rattle.link_facts.proofs.programs_are_sound.Goals as goal
use Rattle.link_facts.proofs.SoundPrograms.{all_sound}

pub returns : goal.returns
returns c = all_sound
