use Rattle.program_build.proofs.laws.strict_parts_stand.Goals as goal
use Rattle.program_build.proofs.Standing.{strict_parts_stand}

pub returns : goal.returns
returns c = strict_parts_stand
