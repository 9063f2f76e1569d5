use Rattle.image_emit.proofs.SpelledLaws.{spelled, read_again}
use Rattle.image_emit.proofs.SpelledOnce.{is_tree}
use Rattle.image_emit.proofs.laws.bytes_are_the_module.Goals as goal

pub returns-clause-spelled : goal.returns-clause-spelled
returns-clause-spelled c = λ t m sound. (is_tree t m sound, spelled t m sound)

pub returns-clause-read : goal.returns-clause-read
returns-clause-read c = read_again
