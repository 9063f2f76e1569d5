use Rattle.name_meanings.proofs.further.add_shared.Goals as goal
use Rattle.name_meanings.proofs.Besides.{found_still, both_further}

pub all_cells-requires-clause-found : goal.all_cells-requires-clause-found
all_cells-requires-clause-found c = found_still c.args.known c.args.found.now c.add_all_made.new.imports c.in_ok-made.made c.requires.found c.in_ok-made.ensures

pub returns : goal.returns
returns c =
    both_further c.args.known c.args.found.now.imports c.add_all_made.new.imports c.all_cells.new.found c.in_ok-cells.cells c.in_ok-made.made c.requires.mode c.requires.known c.in_ok-made.ensures
    c.in_ok-cells.ensures
