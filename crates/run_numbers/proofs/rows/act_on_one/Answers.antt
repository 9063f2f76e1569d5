use Rattle.run_numbers.proofs.rows.act_on_one.Goals as goal

pub returns-in-2-clause-value : goal.returns-in-2-clause-value
returns-in-2-clause-value c = rw (c.in-2.is, c.ones_in.ensures.value)
