use Rattle.shared_types.proofs.shared_bodies_keep_shapes.Goals as goal
use Rattle.shared_types.proofs.Spaces.{spaces}
use Rattle.shared_types.proofs.Bodies.{shapes_kept}

pub returns : goal.returns
returns c = λ p exports lk one part h k i. shapes_kept c.reached_exactly.ensures p exports lk (spaces p exports lk) one part h k i
