use Rattle.output_module.proofs.numbered_bodies_are_read.Goals as goal
use Rattle.output_module.proofs.Written.{filled_bodies}

pub returns : goal.returns
returns c = filled_bodies c.bodies_are_in_order.ensures.order
