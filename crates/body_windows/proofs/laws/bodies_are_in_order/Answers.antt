use Rattle.body_windows.proofs.Order.{body_order, windows_order}
use Rattle.body_windows.proofs.laws.bodies_are_in_order.Goals as goal

pub returns-clause-order : goal.returns-clause-order
returns-clause-order c = λ body bytes s. windows_order body bytes s

pub returns-clause-end : goal.returns-clause-end
returns-clause-end c = λ body bytes s. (body_order body bytes s).1
