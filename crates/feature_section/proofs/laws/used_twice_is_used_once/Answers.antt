use Rattle.feature_section.proofs.UnionLaws.{used_twice}
use Rattle.feature_section.proofs.laws.used_twice_is_used_once.Goals as goal

pub returns : goal.returns
returns c = used_twice
