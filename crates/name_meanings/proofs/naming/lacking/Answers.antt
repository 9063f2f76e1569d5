use Rattle.name_meanings.proofs.naming.lacking.Goals as goal
use Rattle.name_meanings.proofs.Finding.{finds_absent}

pub returns-in-Plain : goal.returns-in-Plain
returns-in-Plain c = λ e is at told.
    finds_absent c.args.known c.args.found.now c.args.symbol c.absent.result c.in-Plain.is c.requires.found c.absent.ensures e is
