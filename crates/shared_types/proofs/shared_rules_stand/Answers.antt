use Rattle.shared_types.proofs.shared_rules_stand.Goals as goal
use Rattle.shared_types.proofs.Spaces.{spaces}
use Rattle.shared_types.proofs.Rules.{rules}

pub returns : goal.returns
returns c = λ p exports lk checked. rules c.reached_exactly.ensures p exports lk (spaces p exports lk) checked
