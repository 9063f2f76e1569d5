use Rattle.output_types.proofs.rules_stand.Goals as goal
use Rattle.output_types.proofs.Spaces.{spaces}
use Rattle.output_types.proofs.Rules.{rules}

pub returns : goal.returns
returns c = λ p exports lk checked. rules c.reached_exactly.ensures p exports lk (spaces p exports lk) checked
