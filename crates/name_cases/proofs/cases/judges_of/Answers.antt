use Rattle.name_cases.specs.Rows.{rows_shown}
use Rattle.name_cases.proofs.cases.judges_of.Goals as goal

pub returns : goal.returns
unfolding rows_shown
returns c = c.in_ok-firsts.ensures
