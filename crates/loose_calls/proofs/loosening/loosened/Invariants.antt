use Rattle.loose_calls.proofs.loosening.loosened.Given as goal

abbrev pub ghost-calls_in : goal.ghost-calls_in
ghost-calls_in g a = g.allow
