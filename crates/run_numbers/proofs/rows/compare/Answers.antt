use Rattle.run_numbers.proofs.rows.compare.Goals as goal

pub returns-in-2 : goal.returns-in-2
returns-in-2 c = rw (c.in-2.is, c.bias.ensures, c.bias-in-2.ensures)
