use Rattle.program_tables.proofs.Typing.{number_at}
use Rattle.program_tables.proofs.types.number_of.Goals as goal

pub returns-clause-at : goal.returns-clause-at
returns-clause-at c = number_at c.add_of.new.self _ c.in_ok-number.number c.in_ok-number.ensures.number
