use Rattle.debug_links.proofs.Keeps.{tails_law}
use Rattle.debug_links.proofs.tails_run.Goals as goal

pub returns : goal.returns
returns c = tails_law c.customs_say_nothing.ensures c.module_is_unambiguous.ensures
