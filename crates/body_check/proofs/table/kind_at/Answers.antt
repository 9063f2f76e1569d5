use Rattle.std.proofs.Common.{rules}
use Rattle.body_check.proofs.table.kind_at.Goals as goal

pub returns-in-None : goal.returns-in-None
returns-in-None c = λ params runs is. c.kind_in.ensures params runs (search (rules, is.1))
