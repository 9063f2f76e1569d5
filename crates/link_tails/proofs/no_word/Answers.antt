use Rattle.link_tails.proofs.Keeps.{word_law}
use Rattle.link_tails.proofs.no_word.Goals as goal

pub returns : goal.returns
returns c = word_law
