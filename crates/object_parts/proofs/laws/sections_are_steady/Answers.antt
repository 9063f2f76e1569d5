use Rattle.object_parts.proofs.Stays.{kind_stays}
use Rattle.object_parts.proofs.laws.sections_are_steady.Goals as goal

pub returns : goal.returns
returns c = kind_stays
