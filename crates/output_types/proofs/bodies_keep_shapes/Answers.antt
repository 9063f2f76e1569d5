use Rattle.output_types.proofs.bodies_keep_shapes.Goals as goal
use Rattle.output_types.proofs.Spaces.{spaces}
use Rattle.output_types.proofs.Bodies.{shapes_kept}

pub returns : goal.returns
returns c = λ p exports lk one part h k i. shapes_kept c.reached_exactly.ensures p exports lk (spaces p exports lk) one part h k i
