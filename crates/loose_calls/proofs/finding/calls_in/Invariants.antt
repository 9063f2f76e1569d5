use Rattle.loose_calls.proofs.finding.calls_in.Given as goal

abbrev pub ghost-all_calls : goal.ghost-all_calls
ghost-all_calls g a = g.allow
