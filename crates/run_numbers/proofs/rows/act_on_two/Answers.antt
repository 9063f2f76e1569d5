use Rattle.run_numbers.proofs.rows.act_on_two.Goals as goal

pub returns-in-2 : goal.returns-in-2
returns-in-2 c = (rw (c.in-2.is, c.times.ensures.value), c.times.ensures.fits)
