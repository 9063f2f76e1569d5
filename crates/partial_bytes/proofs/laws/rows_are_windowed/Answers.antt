use Rattle.partial_bytes.proofs.Windowed.{rows_windowed, rows_fit}
use Rattle.partial_bytes.proofs.laws.rows_are_windowed.Goals as goal

pub returns-clause-told : goal.returns-clause-told
returns-clause-told c = rows_windowed

pub returns-clause-fit : goal.returns-clause-fit
returns-clause-fit c = rows_fit
