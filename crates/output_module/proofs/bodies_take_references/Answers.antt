use Rattle.output_module.proofs.bodies_take_references.Goals as goal
use Rattle.output_module.proofs.Written.{taken_body}

pub returns : goal.returns
returns c = taken_body c.bodies_are_in_order.ensures.order
