use Rattle.valid_links.proofs.names_have_one_type.Goals as goal
use Rattle.valid_links.proofs.Links.{one_type_law}

pub returns : goal.returns
returns c = one_type_law c.reached_exactly.ensures
