use Rattle.feature_section.specs.PayloadLaws.{one_list}
use Rattle.feature_section.proofs.laws.features_are_unambiguous.Goals as goal

pub returns : goal.returns
returns c = one_list
