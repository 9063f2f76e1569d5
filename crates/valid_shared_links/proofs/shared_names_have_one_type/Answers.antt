use Rattle.valid_shared_links.proofs.shared_names_have_one_type.Goals as goal
use Rattle.valid_shared_links.proofs.Links.{one_type_law}

pub returns : goal.returns
returns c = one_type_law c.reached_exactly.ensures c.strict_parts_stand.ensures c.parts_stand.ensures
