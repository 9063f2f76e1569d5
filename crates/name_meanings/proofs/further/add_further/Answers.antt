use Rattle.name_meanings.proofs.further.add_further.Goals as goal
use Rattle.name_meanings.proofs.Besides.{none_further}

pub returns-in-Plain : goal.returns-in-Plain
returns-in-Plain c = none_further c.args.known c.args.found.now.imports c.new.result c.new-in-Plain.result c.in-Plain.is c.new.ensures c.new-in-Plain.ensures
