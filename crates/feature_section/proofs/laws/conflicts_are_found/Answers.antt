use Rattle.feature_section.proofs.ConflictLaws.{conflict_is}
use Rattle.feature_section.proofs.laws.conflicts_are_found.Goals as goal

pub returns : goal.returns
returns c = conflict_is
