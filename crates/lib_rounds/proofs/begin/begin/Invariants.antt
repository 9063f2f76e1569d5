use Rattle.lib_rounds.proofs.begin.begin.Given as goal

abbrev pub ghost-put_given : goal.ghost-put_given
ghost-put_given g a = g.w

abbrev pub ghost-load_whole : goal.ghost-load_whole
ghost-load_whole g a = g.w
