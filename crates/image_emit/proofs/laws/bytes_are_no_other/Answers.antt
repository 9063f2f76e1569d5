use Rattle.image_emit.proofs.SpelledLaws.{no_other}
use Rattle.image_emit.proofs.laws.bytes_are_no_other.Goals as goal

pub returns : goal.returns
returns c = no_other
