use Rattle.loose_calls.proofs.telling.mismatches.Given as goal

abbrev pub ghost-tell_all : goal.ghost-tell_all
ghost-tell_all g a = g.allow
