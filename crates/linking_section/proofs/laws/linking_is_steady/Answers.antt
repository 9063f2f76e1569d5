use Rattle.linking_section.specs.Stays.{linking_stays}
use Rattle.linking_section.proofs.laws.linking_is_steady.Goals as goal

pub returns : goal.returns
returns c = linking_stays
