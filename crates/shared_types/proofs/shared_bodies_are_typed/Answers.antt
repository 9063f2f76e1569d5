use Rattle.shared_types.proofs.shared_bodies_are_typed.Goals as goal
use Rattle.shared_types.proofs.Spaces.{spaces}
use Rattle.shared_types.proofs.Bodies.{bodies_typed}

pub returns : goal.returns
returns c = λ p exports lk one typed plain checked. bodies_typed c.reached_exactly.ensures p exports lk (spaces p exports lk) one plain typed checked
