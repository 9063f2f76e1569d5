use Rattle.partial_items.proofs.Among.{number_in_front, number_behind}
use Rattle.partial_items.proofs.numbers.number_of.Goals as goal

pub returns-then-number-count-clause-number : goal.returns-then-number-count-clause-number
returns-then-number-count-clause-number c = number_in_front _ _ _ _ _ c.requires c.in_ok-number.ensures.types c.in_ok-number.ensures.number c.if-number-count.true

pub returns-else-number-count-clause-number : goal.returns-else-number-count-clause-number
returns-else-number-count-clause-number c = number_behind _ _ _ _ _ c.requires c.in_ok-number.ensures.types c.in_ok-number.ensures.number c.if-number-count.false
