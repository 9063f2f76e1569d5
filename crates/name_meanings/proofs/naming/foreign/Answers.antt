use Rattle.name_meanings.proofs.naming.foreign.Goals as goal
use Rattle.name_meanings.proofs.Finding.{finds_nothing, finds_cell}

pub returns-then-is_address : goal.returns-then-is_address
returns-then-is_address c = λ e is at told.
    finds_cell c.args.known c.args.found.now c.cell.new.self c.args.uses c.args.symbol c.args.name c.in_ok-number.number c.is_address.result c.is_function.result c.requires.mode c.if-is_address.true
    c.is_address.ensures c.is_function.ensures c.in_ok-number.ensures e is at told

pub returns : goal.returns
returns c = λ e is at told.
    finds_nothing c.args.known c.args.found.now c.args.uses c.args.symbol c.is_address.result c.requires.mode c.requires.found c.if-is_address.false c.is_address.ensures e is told
