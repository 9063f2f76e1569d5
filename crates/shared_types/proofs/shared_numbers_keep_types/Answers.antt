use Rattle.shared_types.proofs.shared_numbers_keep_types.Goals as goal
use Rattle.shared_types.proofs.Spaces.{spaces}

pub returns : goal.returns
returns c = λ p exports lk. spaces p exports lk
