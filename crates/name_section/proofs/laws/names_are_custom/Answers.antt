use Rattle.name_section.proofs.Customs.{are_custom}
use Rattle.name_section.proofs.laws.names_are_custom.Goals as goal

pub returns : goal.returns
returns c = are_custom
