use Rattle.loose_calls.proofs.interning.number_of.Goals as goal

pub returns-clause-stays : goal.returns-clause-stays
returns-clause-stays c = record { made = c.in-Ok.ensures.made; symbols = c.in-Ok.ensures.symbols; groups = c.in-Ok.ensures.groups }
