use Rattle.symbol_race.proofs.Order.{by_parts, differ}
use Rattle.symbol_race.proofs.laws.ranks_are_ordered.Goals as goal

pub returns-clause-order : goal.returns-clause-order
returns-clause-order c = by_parts

pub returns-clause-differ : goal.returns-clause-differ
returns-clause-differ c = differ
