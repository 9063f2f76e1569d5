use Rattle.output_module.proofs.filled_bodies_are_read.Goals as goal
use Rattle.output_module.proofs.Written.{filled_body}

pub returns : goal.returns
returns c = filled_body c.bodies_are_in_order.ensures.order
