use Rattle.feature_section.proofs.Written.{written_again}
use Rattle.feature_section.proofs.laws.written_is_read.Goals as goal

pub returns : goal.returns
returns c = written_again
