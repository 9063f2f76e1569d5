use Rattle.object_features.proofs.Customs.{are_custom}
use Rattle.object_features.proofs.laws.features_are_custom.Goals as goal

pub returns : goal.returns
returns c = are_custom
