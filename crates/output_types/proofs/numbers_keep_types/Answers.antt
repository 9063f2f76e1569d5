use Rattle.output_types.proofs.numbers_keep_types.Goals as goal
use Rattle.output_types.proofs.Spaces.{spaces}

pub returns : goal.returns
returns c = λ p exports lk. spaces p exports lk
