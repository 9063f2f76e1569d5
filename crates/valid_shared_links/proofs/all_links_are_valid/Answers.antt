use Rattle.valid_shared_links.proofs.all_links_are_valid.Goals as goal
use Rattle.valid_shared_links.proofs.Modes.{all_links_law}

pub returns : goal.returns
returns c = all_links_law c.links_are_valid.ensures c.shared_links_are_valid.ensures
