use Rattle.program_build.proofs.laws.parts_stand.Goals as goal
use Rattle.program_build.proofs.Standing.{parts_stand}

pub returns : goal.returns
returns c = parts_stand
