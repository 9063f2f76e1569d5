use Rattle.debug_links.proofs.Keeps.{word_law}
use Rattle.debug_links.proofs.no_word.Goals as goal

pub returns : goal.returns
returns c = word_law
