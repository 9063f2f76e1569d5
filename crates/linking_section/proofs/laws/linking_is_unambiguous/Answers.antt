use Rattle.linking_section.specs.LinkingLaws.{one_linking}
use Rattle.linking_section.proofs.laws.linking_is_unambiguous.Goals as goal

pub returns : goal.returns
returns c = one_linking
