use Rattle.memory_layout.proofs.Order.{in_order, all_within}
use Rattle.memory_layout.proofs.laws.segments_stand_in_order.Goals as goal

pub returns-clause-within : goal.returns-clause-within
returns-clause-within c = all_within

pub returns-clause-order : goal.returns-clause-order
returns-clause-order c = in_order
