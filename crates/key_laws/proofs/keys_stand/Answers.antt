use Rattle.key_laws.proofs.keys_stand.Goals as goal
use Rattle.key_laws.proofs.Standing.{keys_stand}

pub returns : goal.returns
returns c = keys_stand c.reached_exactly.ensures c.programs_are_sound.ensures
