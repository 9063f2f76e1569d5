use Rattle.loose_calls.proofs.telling.tell_symbol.Given as goal

abbrev pub ghost-is_loose : goal.ghost-is_loose
ghost-is_loose g a = g.allow

abbrev pub ghost-mismatch_at : goal.ghost-mismatch_at
ghost-mismatch_at g a = g.allow
